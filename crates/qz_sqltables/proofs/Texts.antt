-- What the texts of the statements mean.
use Rattle.std.specs.Fmt.{digits}
use Rattle.std.proofs.Common.{◌≡◌, ℕ, None, pos, negsuc, List, [], ◌∷◌, codes, false, Ok, refl}
use Rattle.sqlite.proofs.Callers.{IsPlain, command_of, statement_of}
use Rattle.sqlite.specs.Does.{is_acted_on}
use Rattle.sqlite.specs.Listing.{understood}
use Rattle.sqlite_catalog.specs.Change.{created}
use Rattle.sqlite_resolve.specs.Compile.{table_defined_by}
use Rattle.sqlite_schema.specs.declared.command.Command.{Command}
use Rattle.sqlite_schema.specs.declared.command.Command.TheVariants.{CreateTable, DropTable, Insert, Select, Update}
use Rattle.sqlite_schema.specs.declared.command.Source.TheVariants.{Values}
use Rattle.sqlite_schema.specs.declared.schema.Keys.TheVariants.{Enforced}
use Rattle.sqlite_schema.specs.declared.schema.Schema.{Schema}
use Rattle.sqlite_schema.specs.declared.schema.Table.{Table}
use Rattle.sqlite_tied.specs.Compute.{everything}
use Rattle.sqlite.specs.Listing.{reads_listing}
use Rattle.sqlite_sql.specs.Query.{Query, end, inner}
use Rattle.sqlite_sql.specs.Term.{Term, col, lit, op1, op2}
use Rattle.sqlite_sql.specs.declared.ops.UnaryOp.TheVariants.{ToNumeric}
use Rattle.sqlite_sql.specs.declared.ops.BinaryOp.TheVariants.{Compare}
use Rattle.sqlite_sql.specs.declared.ops.CompareOp.TheVariants.{Eq}
use Rattle.sqlite_value.specs.declared.keys.Collation.TheVariants.{Binary}
use Rattle.sqlite_value.specs.declared.keys.Key.{Key}
use Rattle.sqlite_value.specs.declared.value.Value.TheVariants.{Null, Int}
use Rattle.qz_sqltables.specs.Schema.{attempt_table, keeper_schema, no_schema, record_table, reply_table, step_table, steps_at, with_attempts, with_records, with_steps, without_replies, without_steps}

pub record Creates (schema : Schema) (text : List ℕ) (table : Table) : Type 0 where
  pub command : command_of (understood schema text) ≡ CreateTable
  pub statement : statement_of text (understood schema text) ≡ text
  pub defined : table_defined_by text ≡ Ok table
  pub plain : IsPlain (understood schema text)

abbrev pub record_text : List ℕ
record_text = codes "CREATE TABLE record (place INTEGER PRIMARY KEY, payload BLOB NOT NULL)"

abbrev pub attempt_text : List ℕ
attempt_text = codes "CREATE TABLE attempt (owner INTEGER NOT NULL, nth INTEGER NOT NULL, quiz INTEGER NOT NULL, status INTEGER NOT NULL, PRIMARY KEY (owner, nth))"

abbrev pub step_text : List ℕ
step_text = codes "CREATE TABLE step (place INTEGER PRIMARY KEY, owner INTEGER NOT NULL, nth INTEGER NOT NULL, slot INTEGER NOT NULL, FOREIGN KEY (owner, nth) REFERENCES attempt (owner, nth))"

abbrev pub reply_text : List ℕ
reply_text = codes "CREATE TABLE reply (caller INTEGER NOT NULL, word TEXT NOT NULL, place INTEGER NOT NULL, PRIMARY KEY (caller, word))"

abbrev pub with_replies : Schema
with_replies = created with_steps reply_table

-- the names of the indexes are those that SQLite gives them
pub all_are : with_replies ≡ keeper_schema
unfolding digits
all_are = refl

pub creates_record : Creates no_schema record_text record_table
unfolding understood everything
creates_record = record { command = refl; statement = refl; defined = refl; plain = (refl, refl) }

pub creates_attempt : Creates with_records attempt_text attempt_table
unfolding understood everything
creates_attempt = record { command = refl; statement = refl; defined = refl; plain = (refl, refl) }

pub creates_step : Creates with_attempts step_text step_table
unfolding understood everything
creates_step = record { command = refl; statement = refl; defined = refl; plain = (refl, refl) }

pub creates_reply : Creates with_steps reply_text reply_table
unfolding understood everything
creates_reply = record { command = refl; statement = refl; defined = refl; plain = (refl, refl) }

-- the statement drops the table at this place
pub record IsDrop (schema : Schema) (text : List ℕ) (at : ℕ) : Type 0 where
  pub command : command_of (understood schema text) ≡ DropTable at
  pub plain : IsPlain (understood schema text)

abbrev pub drop_steps_text : List ℕ
drop_steps_text = codes "DROP TABLE step"

abbrev pub drop_replies_text : List ℕ
drop_replies_text = codes "DROP TABLE reply"

abbrev pub drop_attempts_text : List ℕ
drop_attempts_text = codes "DROP TABLE attempt"

abbrev pub drop_records_text : List ℕ
drop_records_text = codes "DROP TABLE record"

pub drops_steps : IsDrop keeper_schema drop_steps_text 2
unfolding understood everything
drops_steps = record { command = refl; plain = (refl, refl) }

-- no row refers to a step
pub steps_unacted : is_acted_on keeper_schema Enforced steps_at ≡ false
unfolding understood everything
steps_unacted = refl

pub drops_replies : IsDrop without_steps drop_replies_text 2
unfolding understood everything
drops_replies = record { command = refl; plain = (refl, refl) }

pub drops_attempts : IsDrop without_replies drop_attempts_text 1
unfolding understood everything
drops_attempts = record { command = refl; plain = (refl, refl) }

pub drops_records : IsDrop with_records drop_records_text 0
unfolding understood everything
drops_records = record { command = refl; plain = (refl, refl) }

-- ---- statements

abbrev pub put_text : List ℕ
put_text = codes "INSERT INTO record (payload) VALUES (?1)"

abbrev pub put_terms : List Term
put_terms = lit Null ∷ lit Null ∷ col 0 0 ∷ []

pub put_is : command_of (understood keeper_schema put_text) ≡ Insert 0 (Values put_terms 3)
unfolding understood everything
put_is = refl

pub put_plain : IsPlain (understood keeper_schema put_text)
unfolding understood everything
put_plain = (refl, refl)

abbrev pub start_text : List ℕ
start_text = codes "INSERT INTO attempt (owner, nth, quiz, status) VALUES (?1, ?2, ?3, 0)"

abbrev pub start_terms : List Term
start_terms = lit Null ∷ col 0 0 ∷ col 0 1 ∷ col 0 2 ∷ lit (Int (pos 0)) ∷ []

pub start_is : command_of (understood keeper_schema start_text) ≡ Insert 1 (Values start_terms 5)
unfolding understood everything
start_is = refl

pub start_plain : IsPlain (understood keeper_schema start_text)
unfolding understood everything
start_plain = (refl, refl)

abbrev pub act_text : List ℕ
act_text = codes "INSERT INTO step (place, owner, nth, slot) VALUES (?1, ?2, ?3, ?4)"

abbrev pub act_terms : List Term
act_terms = col 0 0 ∷ lit Null ∷ col 0 1 ∷ col 0 2 ∷ col 0 3 ∷ []

pub act_is : command_of (understood keeper_schema act_text) ≡ Insert 2 (Values act_terms 5)
unfolding understood everything
act_is = refl

pub act_plain : IsPlain (understood keeper_schema act_text)
unfolding understood everything
act_plain = (refl, refl)

abbrev pub reply_put_text : List ℕ
reply_put_text = codes "INSERT INTO reply (caller, word, place) VALUES (?1, ?2, ?3)"

abbrev pub reply_terms : List Term
reply_terms = lit Null ∷ col 0 0 ∷ col 0 1 ∷ col 0 2 ∷ []

pub reply_is : command_of (understood keeper_schema reply_put_text) ≡ Insert 3 (Values reply_terms 4)
unfolding understood everything
reply_is = refl

pub reply_plain : IsPlain (understood keeper_schema reply_put_text)
unfolding understood everything
reply_plain = (refl, refl)

abbrev pub end_text : List ℕ
end_text = codes "UPDATE attempt SET status = ?1 WHERE owner = ?2 AND nth = ?3"

abbrev pub end_query : Query
end_query = record {
  from = inner 1 end;
  filter = op2 (Compare Eq Binary) (col 1 1) (op1 ToNumeric (col 0 1)) ∷ op2 (Compare Eq Binary) (col 1 2) (op1 ToNumeric (col 0 2)) ∷ [];
  group = None;
  project = col 1 0 ∷ col 1 0 ∷ col 1 1 ∷ col 1 2 ∷ col 1 3 ∷ col 0 0 ∷ [];
  distinct = false;
  collations = [];
  order = [];
  limit = lit (Int (negsuc 0));
  offset = lit (Int (pos 0));
}

pub end_is : command_of (understood keeper_schema end_text) ≡ Update 1 (record { lets = []; body = end_query })
unfolding understood everything
end_is = refl

pub end_plain : IsPlain (understood keeper_schema end_text)
unfolding understood everything
end_plain = (refl, refl)

-- ---- queries

abbrev pub find_text : List ℕ
find_text = codes "SELECT payload FROM record ORDER BY place"

abbrev pub rising_key : Key
rising_key = record { collation = Binary; descending = false }

abbrev pub find_query : Query
find_query = record {
  from = inner 0 end;
  filter = [];
  group = None;
  project = col 1 2 ∷ [];
  distinct = false;
  collations = [];
  order = (col 1 0, rising_key) ∷ [];
  limit = lit (Int (negsuc 0));
  offset = lit (Int (pos 0));
}

abbrev pub find_command : Command
find_command = Select (record { lets = []; body = find_query }) (codes "payload" ∷ [])

pub find_is : (command_of (understood keeper_schema find_text) ≡ find_command) × (reads_listing keeper_schema find_text ≡ false)
unfolding understood everything
find_is = (refl, refl)

pub find_plain : IsPlain (understood keeper_schema find_text)
unfolding understood everything
find_plain = (refl, refl)

abbrev pub waiting_text : List ℕ
waiting_text = codes "SELECT owner, nth FROM attempt WHERE quiz = ?1 AND status = 0 ORDER BY owner, nth, rowid"

abbrev pub waiting_query : Query
waiting_query = record {
  from = inner 1 end;
  filter = op2 (Compare Eq Binary) (col 1 3) (op1 ToNumeric (col 0 0)) ∷ op2 (Compare Eq Binary) (col 1 4) (lit (Int (pos 0))) ∷ [];
  group = None;
  project = col 1 1 ∷ col 1 2 ∷ [];
  distinct = false;
  collations = [];
  order = (col 1 1, rising_key) ∷ (col 1 2, rising_key) ∷ (col 1 0, rising_key) ∷ [];
  limit = lit (Int (negsuc 0));
  offset = lit (Int (pos 0));
}

abbrev pub waiting_command : Command
waiting_command = Select (record { lets = []; body = waiting_query }) (codes "owner" ∷ codes "nth" ∷ [])

pub waiting_is : (command_of (understood keeper_schema waiting_text) ≡ waiting_command) × (reads_listing keeper_schema waiting_text ≡ false)
unfolding understood everything
waiting_is = (refl, refl)

pub waiting_plain : IsPlain (understood keeper_schema waiting_text)
unfolding understood everything
waiting_plain = (refl, refl)

abbrev pub places_text : List ℕ
places_text = codes "SELECT place FROM step WHERE owner = ?1 AND nth = ?2 ORDER BY place"

abbrev pub places_query : Query
places_query = record {
  from = inner 3 end;
  filter = op2 (Compare Eq Binary) (col 1 2) (op1 ToNumeric (col 0 0)) ∷ op2 (Compare Eq Binary) (col 1 3) (op1 ToNumeric (col 0 1)) ∷ [];
  group = None;
  project = col 1 0 ∷ [];
  distinct = false;
  collations = [];
  order = (col 1 0, rising_key) ∷ [];
  limit = lit (Int (negsuc 0));
  offset = lit (Int (pos 0));
}

abbrev pub places_command : Command
places_command = Select (record { lets = []; body = places_query }) (codes "place" ∷ [])

pub places_is : (command_of (understood keeper_schema places_text) ≡ places_command) × (reads_listing keeper_schema places_text ≡ false)
unfolding understood everything
places_is = (refl, refl)

pub places_plain : IsPlain (understood keeper_schema places_text)
unfolding understood everything
places_plain = (refl, refl)
