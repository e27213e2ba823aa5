-- The tables as SQLite keeps them: their columns, and the rows that stand for a list.
use Rattle.std.specs.Prelude.{◌≡◌, ℕ, pos, Bool, true, false, List, [], ◌∷◌, map, codes, Option, None, Some}
use Rattle.std.specs.List.{enumerate_from}
use Rattle.qz_grading.specs.declared.refusal.AttemptId.{AttemptId}
use Rattle.sqlite.specs.Effect.{Database}
use Rattle.sqlite_catalog.specs.Change.{created, without_table}
use Rattle.sqlite_keyed.specs.Keyed.{IsKeyedBy}
use Rattle.sqlite_keyed.specs.Rules.{AreApart}
use Rattle.sqlite_schema.specs.declared.schema.Action.TheVariants.{NoAction}
use Rattle.sqlite_schema.specs.declared.schema.Column.{Column}
use Rattle.sqlite_schema.specs.declared.schema.Index.{Index}
use Rattle.sqlite_schema.specs.declared.schema.Kind.{Kind}
use Rattle.sqlite_schema.specs.declared.schema.Kind.TheVariants.{Integer, Text as Words, Any}
use Rattle.sqlite_schema.specs.declared.schema.Reference.{Reference}
use Rattle.sqlite_schema.specs.declared.schema.Schema.{Schema}
use Rattle.sqlite_schema.specs.declared.schema.Stamps.{Stamps}
use Rattle.sqlite_schema.specs.declared.schema.Table.{Table}
use Rattle.sqlite_value.specs.declared.keys.Collation.TheVariants.{Binary}
use Rattle.sqlite_value.specs.declared.keys.Order.{Order}
use Rattle.sqlite_value.specs.declared.value.Value.{Value}
use Rattle.sqlite_value.specs.declared.value.Value.TheVariants.{Null, Int, Blob, Text}
use Rattle.sqlite_value.specs.Order.{Row, bytes, column}
use Rattle.qz_sqltables.specs.Rows.{AttemptRow, ReplyRow, StepRow, Tables, place_of, same_attempt}

-- ---- columns

-- a column of a table that isn't strict
abbrev pub column_of : List ℕ → Kind → Bool → Column
column_of name kind not_null = record { name = name; kind = kind; is_strict = false; not_null = not_null; default = Null; collation = Binary }

-- no default reads the time
abbrev pub no_stamps : Stamps
no_stamps = record { places = []; terms = []; formats = [] }

-- a table with these columns, and a rowid of its own unless a column is its key
abbrev pub table_of : List ℕ → List Column → Option ℕ → List ℕ → List (List ℕ) → List Order → List Reference → Table
table_of name columns key primary uniques orders references = record {
  name = name;
  tree = 0;
  columns = columns;
  key = key;
  primary = primary;
  uniques = uniques;
  orders = orders;
  checks = [];
  references = references;
  computed = [];
  stamps = no_stamps;
  is_counted = false;
}

-- the places of two columns, of which no two rows have the same
abbrev pub first_two : List ℕ
first_two = 1 ∷ 2 ∷ []

abbrev pub rising : Order
rising = record { digits = 0 }

-- `place INTEGER PRIMARY KEY`, `payload BLOB NOT NULL`
abbrev pub record_table : Table
record_table = table_of (codes "record") (column_of (codes "place") Integer false ∷ column_of (codes "payload") Any true ∷ []) (Some 0) (0 ∷ []) [] [] []

-- `owner`, `nth`, `quiz`, `status`, all `INTEGER NOT NULL`, `PRIMARY KEY (owner, nth)`
abbrev pub attempt_table : Table
attempt_table =
    table_of (codes "attempt")
    (column_of (codes "owner") Integer true ∷ column_of (codes "nth") Integer true ∷ column_of (codes "quiz") Integer true ∷ column_of (codes "status") Integer true ∷ [])
    None first_two (first_two ∷ []) (rising ∷ []) []

-- `FOREIGN KEY (owner, nth) REFERENCES attempt (owner, nth)`
abbrev pub to_attempt : Reference
to_attempt = record {
  columns = 2 ∷ 3 ∷ [];
  parent = codes "attempt";
  parent_columns = codes "owner" ∷ codes "nth" ∷ [];
  on_delete = NoAction;
  on_update = NoAction;
  is_deferred = false;
}

-- `place INTEGER PRIMARY KEY`, `owner`, `nth`, `slot`, all `INTEGER NOT NULL`
abbrev pub step_table : Table
step_table =
    table_of (codes "step")
    (column_of (codes "place") Integer false ∷ column_of (codes "owner") Integer true ∷ column_of (codes "nth") Integer true ∷ column_of (codes "slot") Integer true ∷ [])
    (Some 0) (0 ∷ []) [] [] (to_attempt ∷ [])

-- `caller INTEGER NOT NULL`, `word TEXT NOT NULL`, `place INTEGER NOT NULL`, `PRIMARY KEY (caller, word)`
abbrev pub reply_table : Table
reply_table =
    table_of (codes "reply") (column_of (codes "caller") Integer true ∷ column_of (codes "word") Words true ∷ column_of (codes "place") Integer true ∷ []) None first_two
    (first_two ∷ []) (rising ∷ []) []

abbrev pub no_schema : Schema
no_schema = record { tables = []; indexes = []; views = [] }

-- the tables made so far
abbrev pub with_records : Schema
with_records = created no_schema record_table

abbrev pub with_attempts : Schema
with_attempts = created with_records attempt_table

abbrev pub with_steps : Schema
with_steps = created with_attempts step_table

-- the trees of the tables, between which stand those of their indexes
abbrev pub attempts_at : Table
attempts_at = record attempt_table { tree = 1 }

abbrev pub steps_at : Table
steps_at = record step_table { tree = 3 }

abbrev pub replies_at : Table
replies_at = record reply_table { tree = 4 }

-- the index of the first two columns of a table
abbrev pub index_of : List ℕ → ℕ → ℕ → Index
index_of name tree table = record { name = name; tree = tree; table = table; columns = first_two; order = rising; is_unique = true }

-- those of the keys of `attempt` and `reply`, by the names that SQLite gives them
abbrev pub key_indexes : List Index
key_indexes = index_of (codes "sqlite_autoindex_attempt_1") 2 1 ∷ index_of (codes "sqlite_autoindex_reply_1") 5 4 ∷ []

abbrev pub keeper_schema : Schema
keeper_schema = record {
  tables = record_table ∷ attempts_at ∷ steps_at ∷ replies_at ∷ [];
  indexes = key_indexes;
  views = [];
}

-- the tables that are left, one by one
abbrev pub without_steps : Schema
without_steps = without_table keeper_schema 3

abbrev pub without_replies : Schema
without_replies = without_table without_steps 4

-- ---- rows

-- a row with its rowid in front
abbrev pub numbered_row : {X : Type 0} → (X → Row) → ℕ × X → Row
numbered_row cells p = Int (pos p.0) ∷ cells p.1

-- rows whose rowids count from 1
abbrev pub numbered_rows : {X : Type 0} → (X → Row) → List X → List Row
numbered_rows cells xs = map (numbered_row cells) (enumerate_from 1 xs)

-- what `record` keeps of a payload: its place is the rowid
abbrev pub payload_cells : List ℕ → Row
payload_cells payload = Null ∷ Blob payload ∷ []

abbrev pub attempt_cells : AttemptRow → Row
attempt_cells a = Int (pos a.owner) ∷ Int (pos a.nth) ∷ Int (pos a.quiz) ∷ Int (pos a.status) ∷ []

-- a step's place is the rowid
abbrev pub step_cells : StepRow → Row
step_cells s = Int (pos s.place) ∷ Null ∷ Int (pos s.owner) ∷ Int (pos s.nth) ∷ Int (pos s.slot) ∷ []

abbrev pub reply_cells : ReplyRow → Row
reply_cells r = Int (pos r.caller) ∷ Text r.word ∷ Int (pos r.place) ∷ []

-- ---- rows that queries show

abbrev pub payload_shown : List ℕ → Row
payload_shown payload = Blob payload ∷ []

abbrev pub attempt_shown : AttemptId → Row
attempt_shown a = Int (pos a.user) ∷ Int (pos a.nth) ∷ []

abbrev pub place_shown : ℕ → Row
place_shown place = Int (pos place) ∷ []

-- the number that a value is
abbrev pub number_in : Value → ℕ
number_in (Int (pos n)) = n
number_in _ = 0

abbrev pub attempt_from : Row → AttemptId
attempt_from row = record { user = number_in (column row 0); nth = number_in (column row 1) }

-- ---- a database that has the tables

pub record HasTables (t : Tables) (db : Database) : Type 0 where
  pub schema : db.schema ≡ keeper_schema
  pub records : db.trees 0 ≡ numbered_rows payload_cells t.payloads
  pub attempts : db.trees 1 ≡ numbered_rows attempt_cells t.attempts
  pub steps : db.trees 3 ≡ map step_cells t.steps
  pub replies : db.trees 4 ≡ numbered_rows reply_cells t.replies
  -- no attempt has two rows
  pub apart : AreApart same_attempt t.attempts
  -- no place has two steps, and they stand in order
  pub risen : IsKeyedBy place_of t.steps

-- `record` has these payloads, whose places count from 1, in a database that has the tables, whatever the others have
pub record HasRecords (payloads : List (List ℕ)) (db : Database) : Type 0 where
  pub schema : db.schema ≡ keeper_schema
  pub records : db.trees 0 ≡ numbered_rows payload_cells payloads

-- the payloads that `record` has, in order of their places
abbrev pub payloads_in : Database → List (List ℕ)
payloads_in db = map (λ row. bytes (column row 2)) (db.trees 0)
