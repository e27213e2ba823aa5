-- How a script ends over the school in a folder's two databases: the school as it was loaded, and as it was given back.
use Rattle.std.specs.Prelude.{◌≡◌, ◌⊎◌, ℕ, ◌≤◌, Bool, false, List, length, Option, Some, None}
use Rattle.std.specs.Io.KnownBytes.{Keeps}
use Rattle.qz_ending.specs.declared.stop.Stop.{Stop}
use Rattle.qz_ending.specs.Endings.{Outside}
use Rattle.qz_loading.specs.declared.fault.LoadFault.{LoadFault}
use Rattle.qz_loading.specs.declared.fault.LoadFault.TheVariants.{Fault}
use Rattle.qz_opening.specs.Unloaded.{Tells}
use Rattle.qz_outside.specs.Causes.{HasRisen}
use Rattle.qz_school.specs.Solos.{School, faults_of, lists_in}
use Rattle.qz_script.specs.Retries.{Seen}
use Rattle.qz_script.specs.Scripts.{HasRisenBy, ServeEnds}
use Rattle.qz_script_schools.specs.Folders.{sunk}
use Rattle.qz_sqlfolders.specs.Folders.{AreOut, AreTablesFound, Based, KeepsElsewhere, sql_telling}
use Rattle.qz_sqlite.specs.Loading.{AreStoredIn, IsLoadFault, IsLoadedFrom, ListsStay}
use Rattle.qz_sqlkeep.specs.Keeping.{Keeping}
use Rattle.sqlite_trees.specs.declared.store.Store.{Ghosts}

-- ---- a school that is served

-- how often the keepers of its lists have failed, in all
abbrev pub keeper_faults : {S : Type 0} → School (Keeping S) → ℕ
keeper_faults a = faults_of (λ k. k.faults) a

-- what is seen of it
abbrev pub seen_in : {S : Type 0} → School (Keeping S) → Seen
seen_in a = record { lists = lists_in a; faults = keeper_faults a }

-- The databases of a folder gave the school a, of the payloads whose tables they were, and took b back: they keep its lists. The bases' count
-- takes those of the keepers, so however often they failed while it was served, that count rose as often.
pub record IsGivenBack {S : Type 0} (tells : Bool) (store : Ghosts S) (token folder : List ℕ) (old new : Based) (a b : School (Keeping S)) : Type 0 where
  pub loaded : IsLoadedFrom (sql_telling tells store) (λ k. k.faults) (AreTablesFound store) token folder old.lists a
  pub stored : AreStoredIn folder new.lists b
  pub later : keeper_faults a ≤ keeper_faults b
  pub risen : HasRisenBy old.faults (keeper_faults b) new.faults
  pub as_often : (n : ℕ) → HasRisenBy (keeper_faults a) n (keeper_faults b) → HasRisenBy old.faults n new.faults

-- a script was answered over it
pub record Serves {S : Type 0} (tells : Bool) (store : Ghosts S) (token folder : List ℕ) (limit : ℕ) (old new : Based) (before now : Outside) (s : Option Stop) : Type 0 where
  pub loaded : School (Keeping S)
  pub closed : School (Keeping S)
  pub back : IsGivenBack tells store token folder old new loaded closed
  pub ends : ServeEnds limit (seen_in loaded) (seen_in closed) before now s

-- ---- databases that don't give a school

-- for this cause: each of them stands for what it stood for, or for that and the founding that was asked
pub record IsUnloaded (token folder : List ℕ) (old new : Based) (cause : LoadFault) : Type 0 where
  pub why : IsLoadFault token folder old.lists cause
  pub stay : ListsStay token folder old.lists new.lists cause
  pub risen : cause ≡ Fault → HasRisen old.faults new.faults

-- that was said, and nothing was read
pub record LeavesUnread (token folder : List ℕ) (old new : Based) (before now : Outside) (s : Stop) : Type 0 where
  pub cause : LoadFault
  pub unloaded : IsUnloaded token folder old new cause
  pub told : Tells cause (sunk before) (sunk now) s
  pub unread : Keeps before.left now.left

abbrev pub Unserved : List ℕ → List ℕ → Based → Based → Outside → Outside → Option Stop → Type 0
Unserved token folder old new before now None = ⊥
Unserved token folder old new before now (Some s) = LeavesUnread token folder old new before now s

-- ---- how it ends

-- The school was served so, or the databases don't give one. Both are given back, no other changed, and no count falls.
pub record SqlEnds {S : Type 0} (tells : Bool) (store : Ghosts S) (token folder : List ℕ) (limit : ℕ) (old new : Based) (before now : Outside) (s : Option Stop) : Type 0 where
  pub by : Serves tells store token folder limit old new before now s ⊎ Unserved token folder old new before now s
  pub none_out : AreOut false folder new.lists
  pub others : KeepsElsewhere folder old.lists new.lists
  pub later : old.faults ≤ new.faults

-- Where no count rose and the source is within the limit, all of it is answered, or the databases don't give a school, or memory was wanting.
pub record AnswersDatabases (limit : ℕ) (old new : Based) (before now : Outside) (status : ℕ) : Type 0 where
  pub done : (text : List ℕ) → before.left ≡ Some text → length text ≤ limit
      → ¬ HasRisen before.source_faults now.source_faults → ¬ HasRisen before.sink_faults now.sink_faults → ¬ HasRisen old.faults new.faults
      → (status ≡ 0) ⊎ ((status ≡ 7) ⊎ (status ≡ 8))
