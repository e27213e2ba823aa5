-- The attempts at a quiz that wait, as lines, and how the command ends that writes them.
use Rattle.std.specs.Prelude.{◌≡◌, ◌⊎◌, ℕ, ◌≤◌, Bool, false, List, [], ◌∷◌, ◌++◌, codes, decimal, flat_map, length, Option, Some, None, IsTrue}
use Rattle.std.specs.Io.KnownBytes.{Appends, Keeps}
use Rattle.qz_disks.specs.declared.keeper.KeepErr.{KeepErr}
use Rattle.qz_disks.specs.declared.keeper.KeepErr.TheVariants as keep
use Rattle.qz_disks.specs.declared.shelf.ShelfErr.{ShelfErr}
use Rattle.qz_disks.specs.declared.shelf.ShelfErr.TheVariants as shelf
use Rattle.qz_ending.specs.declared.stop.Stop.{Stop}
use Rattle.qz_ending.specs.declared.stop.Stop.TheVariants as stop
use Rattle.qz_found.specs.FoundEndings.{Sunk}
use Rattle.qz_grading.specs.declared.refusal.AttemptId.{AttemptId}
use Rattle.qz_outside.specs.Causes.{HasRisen}
use Rattle.qz_outside.specs.Sources.{AppendsFront}
use Rattle.qz_sqlbases.specs.Databases.{ChangesAt}
use Rattle.qz_sqlfolders.specs.Folders.{Based, IsFoundIn, Stays, part_place}
use Rattle.qz_sqlkeep.specs.Keeping.{IsReadingOf, Keeping}
use Rattle.qz_sqltables.specs.Rows.{Tables, places_of, waiting}
use Rattle.qz_sqltables.specs.Schema.{HasTables}
use Rattle.sqlite.specs.Effect.{Database}
use Rattle.sqlite.specs.Held.{state}
use Rattle.sqlite.specs.State.{HasCleanDisk}
use Rattle.sqlite_trees.specs.declared.store.Store.{Ghosts}

-- ---- the lines

-- an attempt, and how many steps it has
abbrev pub open_line : AttemptId → ℕ → List ℕ
open_line a steps = decimal a.user ++ (codes "." ++ (decimal a.nth ++ (codes " " ++ (decimal steps ++ 10 ∷ []))))

abbrev pub line_in : Tables → AttemptId → List ℕ
line_in t a = open_line a (length (places_of a t))

-- those of these attempts
abbrev pub lines_in : List AttemptId → Tables → List ℕ
lines_in attempts t = flat_map (line_in t) attempts

-- the attempts at a quiz that wait, in order of user and number
abbrev pub open_lines : ℕ → Tables → List ℕ
open_lines quiz t = lines_in (waiting quiz t) t

-- what is read is what the tables tell that a database has
pub record IsToldIn {A : Type 0} (reading : Tables → A) (db : Database) (found : A) : Type 0 where
  pub each : (t : Tables) → HasTables t db → found ≡ reading t

-- ---- how the command ends

-- The lines were read by a keeper over the shard's database, from these payloads. Where the store tells what it holds, and in a file while
-- nobody else writes it and the disk returns what was written, they are those of the tables of the payloads.
pub record AreOpenLines {S : Type 0} (tells : Bool) (store : Ghosts S) (quiz : ℕ) (payloads : List (List ℕ)) (lines : List ℕ) : Type 0 where
  pub closed : Keeping S
  pub told : IsTrue tells → IsReadingOf (open_lines quiz) payloads lines
  pub in_file : HasCleanDisk (state store closed.conn) → IsReadingOf (open_lines quiz) payloads lines

-- the lines of what was found in the shard's database
pub record AreFoundLines {S : Type 0} (tells : Bool) (store : Ghosts S) (folder : List ℕ) (quiz : ℕ) (old : Based) (lines : List ℕ) : Type 0 where
  pub payloads : List (List ℕ)
  pub found : IsFoundIn (old.lists.list (part_place folder)) payloads
  pub are : AreOpenLines tells store quiz payloads lines

-- why they weren't read: the bases failed, or the keeper; or memory was wanting
abbrev pub stop_of_keeper : KeepErr → Stop
stop_of_keeper keep.Fault = stop.ShelfFault
stop_of_keeper keep.Memory = stop.Memory

abbrev pub stop_of_bases : ShelfErr → Stop
stop_of_bases shelf.Failed = stop.ShelfFault
stop_of_bases shelf.Memory = stop.Memory

abbrev pub IsUnread : ℕ → ℕ → Stop → Type 0
IsUnread before now stop.ShelfFault = HasRisen before now
IsUnread before now stop.Memory = Unit {0}
IsUnread before now s = ⊥

-- they were written
pub record Shows {S : Type 0} (tells : Bool) (store : Ghosts S) (folder : List ℕ) (quiz : ℕ) (old : Based) (before now : Sunk) : Type 0 where
  pub lines : List ℕ
  pub are : AreFoundLines tells store folder quiz old lines
  pub written : Appends before.holds now.holds lines

-- the sink failed under them, behind a front
pub record ShowsFront {S : Type 0} (tells : Bool) (store : Ghosts S) (folder : List ℕ) (quiz : ℕ) (old : Based) (before now : Sunk) : Type 0 where
  pub lines : List ℕ
  pub are : AreFoundLines tells store folder quiz old lines
  pub written : AppendsFront before.holds now.holds lines
  pub risen : HasRisen before.faults now.faults

abbrev pub OpenBy : {S : Type 0} → Bool → Ghosts S → List ℕ → ℕ → Based → Based → Sunk → Sunk → Option Stop → Type 0
OpenBy tells store folder quiz old new before now None = Shows tells store folder quiz old before now
OpenBy tells store folder quiz old new before now (Some stop.SinkFault) = ShowsFront tells store folder quiz old before now
OpenBy tells store folder quiz old new before now (Some stop.ShelfFault) = Keeps before.holds now.holds × HasRisen old.faults new.faults
OpenBy tells store folder quiz old new before now (Some stop.Memory) = Keeps before.holds now.holds
OpenBy tells store folder quiz old new before now (Some s) = ⊥

-- The shard's database is given back, and its list is as it was found. No other changes, and no count falls.
pub record OpenEnds {S : Type 0} (tells : Bool) (store : Ghosts S) (folder : List ℕ) (quiz : ℕ) (old new : Based) (before now : Sunk) (s : Option Stop) : Type 0 where
  pub by : OpenBy tells store folder quiz old new before now s
  pub back : new.lists.is_out (part_place folder) ≡ false
  pub stays : Stays (old.lists.list (part_place folder)) (new.lists.list (part_place folder))
  pub others : ChangesAt (part_place folder) old.lists new.lists
  pub later : old.faults ≤ new.faults

-- where no count rose all of it is written, or memory was wanting
pub record ShowsAll (old new : Based) (before now : Sunk) (status : ℕ) : Type 0 where
  pub done : ¬ HasRisen before.faults now.faults → ¬ HasRisen old.faults new.faults → (status ≡ 0) ⊎ (status ≡ 8)
