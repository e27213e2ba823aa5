-- What loading a school comes to whose lists the files of its folder stand for.
use Rattle.std.specs.Prelude.{◌≡◌, ◌⊎◌, ℕ, List, map, All, Ok, Result, MatchResult, Some, slice_get}
use Rattle.qz_disks.specs.Shelves.{File, Files}
use Rattle.qz_journal.specs.Frames.{stands_for}
use Rattle.qz_journal.specs.Journals.{Ledger}
use Rattle.qz_loading.specs.declared.fault.LoadFault.{LoadFault}
use Rattle.qz_loading.specs.declared.fault.LoadFault.TheVariants.{Fault, Memory}
use Rattle.qz_loading.specs.Opening.{lists_of}
use Rattle.qz_loading.specs.Places.{catalog_place, part_place}
use Rattle.qz_record.specs.Records.{IsRecord}
use Rattle.qz_terms.specs.declared.record.Record.{Record}
use Rattle.qz_terms.specs.Legal.{IsSchool}
use Rattle.qz_terms.specs.Spelling.{spelling}
use Rattle.qz_school.specs.Solos.{School}

-- a file tells, and stands for the spellings of these records
pub record StandsFor (file : File) (l : List Record) : Type 0 where
  pub bytes : List ℕ
  pub told : file.reads ≡ Some bytes
  pub stands : stands_for bytes ≡ Ok (map spelling l)
  pub records : All IsRecord l

-- These are the lists of a school, and each file of the folder stands for its list.
pub record IsKeptIn (folder : List ℕ) (files : Files) (c : List Record) (parts : List (List Record)) : Type 0 where
  pub school : IsSchool c parts
  pub catalog_file : StandsFor (files.file (catalog_place folder)) c
  pub part_files : (k : ℕ) (h : List Record) → slice_get parts k ≡ Some h → StandsFor (files.file (part_place folder k)) h

-- Where they stand for these lists, which are those of a school, these are loaded, unless a fault or want of memory keeps them from being.
pub record Restarts {D : Type 0} (folder : List ℕ) (files : Files) (result : Result (School (Ledger D)) LoadFault) : Type 0 where
  pub each : (c : List Record) (parts : List (List Record)) → IsKeptIn folder files c parts
      → MatchResult result (λ made. (made.catalog.held.list ≡ c) × (lists_of made.parts ≡ parts)) (λ cause. (cause ≡ Fault) ⊎ (cause ≡ Memory))
