-- What is loaded at the next start of the files of a folder that took a school back.
use Rattle.std.specs.Prelude.{◌≡◌, ◌⊎◌, ℕ, ◌<◌, true, List, length, Some, is_some, IfOk, Result, MatchResult}
use Rattle.qz_disks.specs.Shelves.{File, Files}
use Rattle.qz_found.specs.FoundEndings.{Shelved}
use Rattle.qz_journal.specs.Journals.{Ledger}
use Rattle.qz_loading.specs.declared.fault.LoadFault.{LoadFault}
use Rattle.qz_loading.specs.declared.fault.LoadFault.TheVariants.{Fault, Memory}
use Rattle.qz_loading.specs.Opening.{IsLoadedFrom}
use Rattle.qz_loading.specs.Places.{catalog_place, part_place}
use Rattle.qz_school.specs.Solos.{School, lists_in}
use Rattle.qz_script_schools.specs.Folders.{Disks, IsGivenBack}
use Rattle.qz_solo.specs.Memory.{AreClear}
use Rattle.qz_solo.specs.Restarting.{Restarts}
use Rattle.qz_terms.specs.Serial.{AllMended, Lists}

-- A file that was told when it was handed out, and given back: at the next start it reads as an image that a crash, or none, might have left
-- of it then.
pub record IsLeft (old new next : File) : Type 0 where
  pub was_told : is_some old.reads ≡ true
  pub bytes : List ℕ
  pub reads : next.reads ≡ Some bytes
  pub left : new.left bytes

-- so of the files of a catalogue and its first so many shards: nobody else wrote them
pub record AreLeft (folder : List ℕ) (count : ℕ) (old new next : Files) : Type 0 where
  pub catalog : IsLeft (old.file (catalog_place folder)) (new.file (catalog_place folder)) (next.file (catalog_place folder))
  pub parts : (k : ℕ) → k < count → IsLeft (old.file (part_place folder k)) (new.file (part_place folder k)) (next.file (part_place folder k))

-- each list is as it was, its record in doubt adopted or dropped
pub record AreSettled (old new : Lists) : Type 0 where
  pub mended : AllMended old new
  pub clear : AreClear new

abbrev pub shelved : {F : Type 0} → (F → Files) → (F → ℕ) → F → Shelved
shelved files faults shelf = record { files = files shelf; faults = faults shelf }

-- What a shelf took back is loaded again of a later one: each list as it was, its record in doubt adopted or dropped; or a fault or want of
-- memory keeps the school from being loaded.
pub record GivenBackIsLoaded {F D : Type 0} (files : F → Files) (faults : F → ℕ) (disks : Disks D) : Type 0 where
  pub again : (folder : List ℕ) (old new next : F) (a b : School (Ledger D)) (result : Result (School (Ledger D)) LoadFault)
      → IsGivenBack disks folder (shelved files faults old) (shelved files faults new) a b → AreLeft folder (length b.parts) (files old) (files new) (files next)
      → IfOk result (λ made. IsLoadedFrom disks.moment disks.left_at folder (files next) made.catalog made.parts) → Restarts folder (files next) result
      → MatchResult result (λ made. AreSettled (lists_in b) (lists_in made)) (λ cause. (cause ≡ Fault) ⊎ (cause ≡ Memory))
