-- What becomes of the lists of a school that are given back.
use Rattle.std.specs.Prelude.{◌≡◌, ◌⊎◌, ℕ, List, [], ◌∷◌, ◌++◌, map, Option, None, Some, Ok, is_some, IfSome, slice_get}
use Rattle.qz_disks.specs.Shelves.{File, Files}
use Rattle.qz_journal.specs.Frames.{stands_for}
use Rattle.qz_journal.specs.Journals.{Ledger}
use Rattle.qz_loading.specs.Places.{part_place}
use Rattle.qz_shard.specs.Keeping as part
use Rattle.qz_terms.specs.declared.record.Record.{Record}
use Rattle.qz_terms.specs.Serial.{Held}
use Rattle.qz_terms.specs.Spelling.{spelling}

abbrev pub stands_with : List Record → Option Record → List ℕ → Type 0
stands_with list None image = stands_for image ≡ Ok (map spelling list)
stands_with list (Some r) image = (stands_for image ≡ Ok (map spelling list)) ⊎ (stands_for image ≡ Ok (map spelling (list ++ r ∷ [])))

-- each image that a crash may leave stands for a list, or, where a record is in doubt, for it with that record
pub record StandForList (held : Held) (outcomes : List ℕ → Type 0) : Type 0 where
  pub each : (c : List ℕ) → outcomes c → stands_with held.list held.doubt c

-- A file stands for the list that its journal kept, where it tells what it reads as; a journal tells its payloads where its file does.
pub record IsBack {D : Type 0} (journal : Ledger D) (held : Held) (file : File) : Type 0 where
  pub tells : is_some journal.kept ≡ is_some file.reads
  pub stands : IfSome journal.kept (λ _. StandForList held file.left)

-- so do the files of these shards
pub record PartsAreBack {D : Type 0} (folder : List ℕ) (parts : List (part.Keeping (Ledger D))) (files : Files) : Type 0 where
  pub each : (k : ℕ) (s : part.Keeping (Ledger D)) → slice_get parts k ≡ Some s → IsBack s.keeper s.held (files.file (part_place folder k))
