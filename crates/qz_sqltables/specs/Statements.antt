-- What a statement does to the tables, where nobody else writes the database and the disk returns what was written.
use Rattle.std.specs.Prelude.{◌≡◌, ℕ, ◌+◌, ℤ, pos, List, [], length, Result, IsTrue, MatchResult}
use Rattle.std.specs.List.{AllByRecursion}
use Rattle.sqlite.specs.Effect.{Database}
use Rattle.sqlite.specs.State.{State}
use Rattle.sqlite_schema.specs.declared.schema.Schema.{Schema}
use Rattle.sqlite_trees.specs.Tree.{Trees}
use Rattle.qz_sqltables.specs.Rows.{Tables, with_payload}
use Rattle.qz_sqltables.specs.Schema.{HasRecords, HasTables}

-- ---- writes

-- the tables turn into these
pub record Turns (change : Tables → Tables) (old new : Database) : Type 0 where
  pub turns : (t : Tables) → HasTables t old → HasTables (change t) new

-- a payload stands behind the others, at the next place
pub record PutsPayload (payload : List ℕ) (place : ℤ) (old new : State) : Type 0 where
  pub puts : Turns (with_payload payload) old.now new.now
  pub at : (t : Tables) → HasTables t old.now → place ≡ pos (length t.payloads + 1)

-- ---- reads

-- the database is as it was; it is shut where its disk failed, and then shows nothing
pub record StaysAsItWas (old new : State) : Type 0 where
  pub was_open : IsTrue new.is_open → IsTrue old.is_open
  pub same : IsTrue new.is_open → new.now ≡ old.now

-- what was found is what the tables say, and they stay
pub record IsFound {A : Type 0} (told found : A) (old new : State) : Type 0 where
  pub is_open : IsTrue new.is_open
  pub stays : StaysAsItWas old new
  pub is : found ≡ told

pub record Finds {A : Type 0} (reading : Tables → A) (found : A) (old new : State) : Type 0 where
  pub finds : (t : Tables) → HasTables t old.now → IsFound (reading t) found old new

-- a database that has the tables is as it was
pub record KeepsTables (old new : State) : Type 0 where
  pub keeps : (t : Tables) → HasTables t old.now → StaysAsItWas old new

abbrev pub EndsFinding : {A E : Type 0} → (Tables → A) → State → State → Result A E → Type 0
EndsFinding reading old new result = MatchResult result (λ found. Finds reading found old new) (λ _. KeepsTables old new)

-- ---- the schema

-- the database lists these tables alone, whose rows are those of the trees
pub record HasRows (listed : Schema) (rows : Trees) (db : Database) : Type 0 where
  pub schema : db.schema ≡ listed
  pub each : AllByRecursion (λ table. db.trees table.tree ≡ rows table.tree) listed.tables

-- there is one table more, which has no row
pub record Makes (listed next : Schema) (tree : ℕ) (old new : Database) : Type 0 where
  pub makes : (rows : Trees) → rows tree ≡ [] → HasRows listed rows old → HasRows next rows new

-- a database that lists the one lists the other
abbrev pub Relists : Schema → Schema → Database → Database → Type 0
Relists listed next old new = old.schema ≡ listed → new.schema ≡ next

-- ---- the payloads that `record` has, whatever the other tables have

pub record FindsRecords {A : Type 0} (reading : List (List ℕ) → A) (found : A) (old : State) : Type 0 where
  pub finds : (payloads : List (List ℕ)) → HasRecords payloads old.now → found ≡ reading payloads
