-- How a command ends that serves a door over the school of a folder, on one thread.
use Rattle.std.specs.Prelude.{◌≡◌, ◌⊎◌, ℕ, List, Option, Some, Result, MatchResult}
use Rattle.std.specs.Io.KnownBytes.{Keeps}
use Rattle.qz_doors.specs.Doors.{Entrance}
use Rattle.qz_doors.specs.Links.{Peer}
use Rattle.qz_ending.specs.declared.stop.Stop.{Stop}
use Rattle.qz_ending.specs.declared.stop.Stop.TheVariants as stop
use Rattle.qz_found.specs.FoundEndings.{Shelved, Sunk}
use Rattle.qz_journal.specs.Journals.{Ledger}
use Rattle.qz_outside.specs.Causes.{HasRisen}
use Rattle.qz_polling.specs.Polling.{VisitorsServe}
use Rattle.qz_school.specs.Solos.{School}
use Rattle.qz_script_schools.specs.Folders.{Disks, FolderEnds, journal_faults}
use Rattle.qz_served.specs.declared.saying.Served.{Served}
use Rattle.qz_served.specs.Saying.{SaysServed}
use Rattle.qz_stations.specs.Stations.{GrowsWith}
use Rattle.qz_visit.specs.Closing.{Closes}
use Rattle.qz_visit.specs.Opening.{told_by}

-- a door, and what is told of it
pub record At (P L : Type 0) : Type 0 where
  pub door : P
  pub entrance : Entrance L

-- The links of the door were served over it, and this was said of it. Each of its lists goes on from what it was, and from what any visitor saw, and is
-- longer by what the visitors put.
pub record PolledDoor {D P L C : Type 0} (disks : Disks D) (tells : C → ℕ → C → Type 0) (peer : L → Peer) (links : ℕ) (clocks : List C) (at after : At P L) (before now : Sunk) (s : Option Stop) (a b : School (Ledger D)) : Type 0 where
  pub end : Served
  pub closes : Closes (journal_faults disks) (told_by (journal_faults disks) a) b
  pub served : VisitorsServe tells peer links clocks at.entrance after.entrance (told_by (journal_faults disks) a) (λ seen. Closes (journal_faults disks) seen b) (λ passes. GrowsWith passes a b) end
  pub says : SaysServed before.holds now.holds before.faults now.faults end s

-- memory was wanting before any link was taken
pub record NonePolled {D P L : Type 0} (disks : Disks D) (at after : At P L) (before now : Sunk) (s : Option Stop) (a b : School (Ledger D)) : Type 0 where
  pub closes : Closes (journal_faults disks) (told_by (journal_faults disks) a) b
  pub stays : after ≡ at
  pub memory : s ≡ Some stop.Memory
  pub unwritten : Keeps before.holds now.holds

-- The links of a door were served over the school of a folder, or the files don't give one, and the door stays as it is.
abbrev pub PollFolderEnds : {D P L C : Type 0} → Disks D → List ℕ → (C → ℕ → C → Type 0) → (L → Peer) → ℕ → List C → At P L → At P L → Shelved → Shelved → Sunk → Sunk → Option Stop → Type 0
PollFolderEnds disks folder tells peer links clocks at after old new before now s =
    FolderEnds disks folder (λ a b t. PolledDoor disks tells peer links clocks at after before now t a b ⊎ NonePolled disks at after before now t a b)
    (after ≡ at) old new before now s

-- Where no count of faults rose, of the sink, the shelf or the door, the links were served, or the files don't give a school, or memory was wanting.
pub record PollsAll {P L : Type 0} (at after : At P L) (old new : Shelved) (before now : Sunk) (status : ℕ) : Type 0 where
  pub done : ¬ HasRisen before.faults now.faults → ¬ HasRisen old.faults new.faults → ¬ HasRisen at.entrance.faults after.entrance.faults → (status ≡ 0) ⊎ ((status ≡ 7) ⊎ (status ≡ 8))

-- nothing is written of links that weren't served, since memory was wanting
abbrev pub SaysOf : {E : Type 0} → Option (List ℕ) → Option (List ℕ) → ℕ → ℕ → Result Served E → Option Stop → Type 0
SaysOf old new before now served s = MatchResult served (λ end. SaysServed old new before now end s) (λ _. (s ≡ Some stop.Memory) × Keeps old new)
