-- How a command ends that serves doors over the school of a folder.
use Rattle.std.specs.Prelude.{◌≡◌, ◌⊎◌, ℕ, ◌<◌, List, Option, None, Some, slice_get}
use Rattle.std.specs.Io.KnownBytes.{Keeps}
use Rattle.qz_doors.specs.declared.door.DoorEnd.{DoorEnd}
use Rattle.qz_ending.specs.declared.stop.Stop.{Stop}
use Rattle.qz_ending.specs.declared.stop.Stop.TheVariants as stop
use Rattle.qz_found.specs.FoundEndings.{Shelved, Sunk}
use Rattle.qz_journal.specs.Journals.{IsSound, Ledger}
use Rattle.qz_outside.specs.Causes.{HasRisen}
use Rattle.qz_regrading.specs.Loops.{AllDone, HasRisenBy}
use Rattle.qz_script_schools.specs.Folders.{Disks, FolderEnds, journal_faults}
use Rattle.qz_school.specs.Solos.{School, lists_in}
use Rattle.qz_stations.specs.declared.ends.ServeEnd.{ServeEnd}
use Rattle.qz_stations.specs.Passing.{ServesNone, ServesSchool}
use Rattle.qz_stations.specs.Stations.{Serving, ServesBeside, fault_replies}
use Rattle.qz_visit.specs.Visits.{Seats, Tellings}
use Rattle.qz_served.specs.Saying.{SaysServed}
use Rattle.qz_serving.specs.Saying.{served_by}

-- As often as a reply at any one of these doors says that a keeper failed, this count rose.
pub record RisesAsOften {D C : Type 0} {serves : Serving D C} {told : Tellings} {Kept : Tellings → Type 0} {count : ℕ} {old new : List (D × C)} {end : DoorEnd} (beside : ServesBeside serves told Kept count old new end) (before after : ℕ) : Type 0 where
  pub each : (k : ℕ) (e : DoorEnd) (p : Seats) (there : slice_get beside.ends k ≡ Some e) (its : slice_get beside.lasts k ≡ Some p) → HasRisenBy before (fault_replies (serves.replies (beside.each k e p there its).going)) after

-- The first so many doors were served over it side by side, so many regraded beside them, and this was said of it. The shelf's count rose as often
-- as the replies at any one door say that a keeper failed.
pub record ServedDoors {D R C : Type 0} (disks : Disks D) (workers regraders : ℕ) (serves : Serving R C) (doors after : List (R × C)) (old new : Shelved) (before now : Sunk) (s : Option Stop) (a b : School (Ledger D)) : Type 0 where
  pub end : ServeEnd
  pub school : ServesSchool (IsSound disks.sound) (journal_faults disks) serves workers regraders a b doors after end
  pub as_often : RisesAsOften school.beside old.faults new.faults
  pub says : SaysServed before.holds now.holds before.faults now.faults (served_by end) s

-- memory was wanting before any door was served
pub record NoneServed {D R C : Type 0} (disks : Disks D) (doors after : List (R × C)) (before now : Sunk) (s : Option Stop) (a b : School (Ledger D)) : Type 0 where
  pub school : ServesNone (journal_faults disks) a b doors after
  pub memory : s ≡ Some stop.Memory
  pub unwritten : Keeps before.holds now.holds

-- The doors were served or not. Where all went well and somebody regraded, each job of the catalogue is done in each shard at the end.
pub record ServedTogether {D R C : Type 0} (disks : Disks D) (workers regraders : ℕ) (serves : Serving R C) (doors after : List (R × C)) (old new : Shelved) (before now : Sunk) (s : Option Stop) (a b : School (Ledger D)) : Type 0 where
  pub ends : ServedDoors disks workers regraders serves doors after old new before now s a b ⊎ NoneServed disks doors after before now s a b
  pub worked : s ≡ None → 0 < regraders → ¬ HasRisen old.faults new.faults → AllDone (lists_in b)

-- the first so many of some doors were served over it while so many regraded, or all stay as they are
abbrev pub DoorsFolderEnds : {D R C : Type 0} → Disks D → List ℕ → (workers regraders : ℕ) → Serving R C → List (R × C) → List (R × C) → Shelved → Shelved → Sunk → Sunk → Option Stop → Type 0
DoorsFolderEnds disks folder workers regraders serves doors after old new before now s =
    FolderEnds disks folder (λ a b t. ServedTogether disks workers regraders serves doors after old new before now t a b) (after ≡ doors) old new before now s

-- Where neither the sink's count rose nor the shelf's, nor a door failed, the doors were served, or the files don't give a school, or memory
-- was wanting.
pub record ServesDoors (none_fails : Type 0) (old new : Shelved) (before now : Sunk) (status : ℕ) : Type 0 where
  pub done : ¬ HasRisen before.faults now.faults → ¬ HasRisen old.faults new.faults → none_fails → (status ≡ 0) ⊎ ((status ≡ 7) ⊎ (status ≡ 8))
