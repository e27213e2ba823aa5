-- How a command ends that serves doors by clerks over the school of a folder.
use Rattle.std.specs.Prelude.{◌≡◌, ◌⊎◌, ℕ, ◌<◌, List, Option, None}
use Rattle.qz_ending.specs.declared.stop.Stop.{Stop}
use Rattle.qz_found.specs.FoundEndings.{Shelved, Sunk}
use Rattle.qz_journal.specs.Journals.{IsSound, Ledger}
use Rattle.qz_outside.specs.Causes.{HasRisen}
use Rattle.qz_regrading.specs.Loops.{AllDone}
use Rattle.qz_script_schools.specs.Folders.{Disks, FolderEnds, journal_faults}
use Rattle.qz_school.specs.Solos.{School, lists_in}
use Rattle.qz_serving.specs.Folders.{NoneServed, RisesAsOften}
use Rattle.qz_stations.specs.Stations.{Serving}
use Rattle.qz_audit.specs.declared.auditing.AuditEnd.{AuditEnd}
use Rattle.qz_audit.specs.Audits.{Audits}
use Rattle.qz_audit.specs.Saying.{SaysAudited}

-- Clerks served the first so many doors over it side by side, so many regraded beside them, and this was said of it. The shelf's count rose as
-- often as the replies at any one door say that a keeper failed.
pub record AuditedDoors {D R C : Type 0} (disks : Disks D) (workers regraders : ℕ) (serves : Serving R C) (doors after : List (R × C)) (old new : Shelved) (before now : Sunk) (s : Option Stop) (a b : School (Ledger D)) : Type 0 where
  pub end : AuditEnd
  pub school : Audits (IsSound disks.sound) (journal_faults disks) serves workers regraders a b doors after end
  pub as_often : RisesAsOften school.served.beside old.faults new.faults
  pub says : SaysAudited before.holds now.holds before.faults now.faults end s

-- The doors were served or not. Where all went well and somebody regraded, each job of the catalogue is done in each shard at the end.
pub record AuditedTogether {D R C : Type 0} (disks : Disks D) (workers regraders : ℕ) (serves : Serving R C) (doors after : List (R × C)) (old new : Shelved) (before now : Sunk) (s : Option Stop) (a b : School (Ledger D)) : Type 0 where
  pub ends : AuditedDoors disks workers regraders serves doors after old new before now s a b ⊎ NoneServed disks doors after before now s a b
  pub worked : s ≡ None → 0 < regraders → ¬ HasRisen old.faults new.faults → AllDone (lists_in b)

-- the first so many of some doors were served over it while so many regraded, or all stay as they are
abbrev pub AuditFolderEnds : {D R C : Type 0} → Disks D → List ℕ → (workers regraders : ℕ) → Serving R C → List (R × C) → List (R × C) → Shelved → Shelved → Sunk → Sunk → Option Stop → Type 0
AuditFolderEnds disks folder workers regraders serves doors after old new before now s =
    FolderEnds disks folder (λ a b t. AuditedTogether disks workers regraders serves doors after old new before now t a b) (after ≡ doors) old new before now s

-- Where neither the sink's count rose nor the shelf's, nor a door failed, the doors were served and what was noted was gathered, or a gap was
-- found, or the files don't give a school, or memory was wanting.
pub record AuditsDoors (none_fails : Type 0) (old new : Shelved) (before now : Sunk) (status : ℕ) : Type 0 where
  pub done : ¬ HasRisen before.faults now.faults → ¬ HasRisen old.faults new.faults → none_fails → (status ≡ 0) ⊎ ((status ≡ 7) ⊎ ((status ≡ 8) ⊎ (status ≡ 11)))
