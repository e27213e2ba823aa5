-- What a keeper over a database has, and what its calls do to the tables.
use Rattle.std.specs.Prelude.{◌≡◌, ℕ, Bool, false, if◌then◌else◌, List, [], Option, Some, None, Result, IsTrue, IfOk, IfSome, MatchResult, refl}
use Rattle.std.specs.Coded.{Coded, code_by, coded×, coded_ℕ, coded_list, coded_option}
use Rattle.qz_disks.specs.declared.keeper.KeepErr.{KeepErr}
use Rattle.qz_disks.specs.declared.keeper.KeepErr.TheVariants.{Fault, Memory}
use Rattle.qz_disks.specs.Keepers.{with_one_more}
use Rattle.qz_outside.specs.Causes.{counted}
use Rattle.sqlite.specs.declared.error.Error.{Error}
use Rattle.sqlite.specs.declared.error.Error.TheVariants.{SqliteFailure}
use Rattle.sqlite.specs.declared.error.ErrorCode.TheVariants.{OutOfMemory}
use Rattle.sqlite.specs.Effect.{Database}
use Rattle.sqlite.specs.Held.{Held, held_code}
use Rattle.sqlite.specs.State.{State}
use Rattle.qz_sqltables.specs.Rows.{Tables}
use Rattle.qz_sqltables.specs.Schema.{HasRecords, HasTables, keeper_schema, no_schema, payloads_in}
use Rattle.qz_sqltables.specs.Statements.{StaysAsItWas, Turns}
use Rattle.qz_terms.specs.declared.record.Record.{Record}
use Rattle.qz_sqlkeep.specs.Tables.{SpellEach, tables_of, with_entry}

-- ---- the keeper

-- its connection, the payload in doubt, and how often SQLite refused
pub record Keeping (S : Type 0) : Type 0 where
  pub conn : Held S
  pub doubt : Option (List ℕ)
  pub faults : ℕ

abbrev pub keeping_code : {S : Type 0} → Coded S → Coded (Keeping S)
keeping_code {S} store =
    code_by (Held S × (Option (List ℕ) × ℕ)) (coded× (held_code store) (coded× (coded_option (coded_list coded_ℕ)) coded_ℕ))
    (λ k. (k.conn, (k.doubt, k.faults))) (λ p. record { conn = p.0; doubt = p.1.0; faults = p.1.1 }) (λ _. refl)

-- the payloads kept, where the store tells what it holds
abbrev pub kept_in : Bool → Database → Option (List (List ℕ))
kept_in tells db = if tells then Some (payloads_in db) else None

-- the database is the tables of the payloads
pub record Stands (payloads : List (List ℕ)) (db : Database) : Type 0 where
  pub spelled : List (Option Record)
  pub each : SpellEach payloads spelled
  pub tables : HasTables (tables_of payloads spelled) db

-- Between its calls no transaction is open, and the database of a store that tells it is the tables of its payloads.
pub record IsAtRest (tells : Bool) (s : State) : Type 0 where
  pub idle : s.in_transaction ≡ false
  pub stands : IsTrue tells → Stands (payloads_in s.now) s.now

-- ---- refusals

-- want of memory is told as such, and any other refusal of SQLite as a fault
abbrev pub told_of : Error → KeepErr
told_of (SqliteFailure OutOfMemory) = Memory
told_of _ = Fault

-- a fault raises the count
abbrev pub faults_after : KeepErr → ℕ → ℕ
faults_after Fault before = counted before
faults_after Memory before = before

-- ---- what an append does to the tables, where nobody else writes the database and the disk returns what was written

-- a payload was put with what it spells, and that is committed
pub record Enters (payload : List ℕ) (spelled : Option Record) (old new : State) : Type 0 where
  pub is_open : IsTrue new.is_open
  pub committed : new.committed ≡ new.now
  pub turns : Turns (with_entry payload spelled) old.now new.now

abbrev pub EndsEntering : {E : Type 0} → List ℕ → Option Record → State → State → Result (Unit {0}) E → Type 0
EndsEntering payload spelled old new result = MatchResult result (λ _. Enters payload spelled old new) (λ _. StaysAsItWas old new)

-- the tables are those of the list with one more payload, and that is committed
pub record Stores (payload : List ℕ) (old new : State) : Type 0 where
  pub is_open : IsTrue new.is_open
  pub committed : new.committed ≡ new.now
  pub tables : (payloads : List (List ℕ)) → Stands payloads old.now → Stands (with_one_more payload payloads) new.now

abbrev pub EndsStoring : {E : Type 0} → List ℕ → State → State → Result (Unit {0}) E → Type 0
EndsStoring payload old new result = MatchResult result (λ _. Stores payload old new) (λ _. StaysAsItWas old new)

-- ---- tables made anew

-- tables of payloads become those of the list with one more
pub record Grows (payload : List ℕ) (old new : Database) : Type 0 where
  pub grows : (payloads : List (List ℕ)) → Stands payloads old → Stands (with_one_more payload payloads) new

-- whatever the tables had, they are those of these payloads, and that is committed
pub record Remakes (payloads : List (List ℕ)) (old new : State) : Type 0 where
  pub is_open : IsTrue new.is_open
  pub committed : new.committed ≡ new.now
  pub stands : old.now.schema ≡ keeper_schema → Stands payloads new.now

-- The tables are those of the payloads found, whatever stood in them. These are the payloads of `record`; a database without tables has none.
pub record Fills (found : List (List ℕ)) (old new : State) : Type 0 where
  pub stands : Stands found new.now
  pub told : (payloads : List (List ℕ)) → HasRecords payloads old.now → found ≡ payloads
  pub none : old.now.schema ≡ no_schema → found ≡ []

-- the list of a keeper whose payloads were told
abbrev pub told_by : Bool → List (List ℕ) → Option (List (List ℕ))
told_by tells found = if tells then Some found else None

-- ---- what is read

-- what the tables of the payloads tell
pub record IsReadingOf {A : Type 0} (reading : Tables → A) (payloads : List (List ℕ)) (found : A) : Type 0 where
  pub spelled : List (Option Record)
  pub each : SpellEach payloads spelled
  pub is : found ≡ reading (tables_of payloads spelled)

-- it is read from the list kept, where the store tells it, and changes neither that nor the payload in doubt
pub record EndsReading {A E : Type 0} (reading : Tables → A) (old new : Option (List (List ℕ))) (doubt_before doubt_now : Option (List ℕ)) (result : Result A E) : Type 0 where
  pub told : IfOk result (λ found. IfSome old (λ payloads. IsReadingOf reading payloads found))
  pub kept : new ≡ old
  pub same_doubt : doubt_now ≡ doubt_before
