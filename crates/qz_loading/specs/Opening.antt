-- The lists of a school that are open: what each is, and its journal.
use Rattle.std.specs.Prelude.{◌≡◌, ℕ, List, length, map, Some, slice_get}
use Rattle.qz_catalog.specs.Keeping as catalog
use Rattle.qz_disks.specs.Shelves.{File, Files}
use Rattle.qz_folders.specs.Opening.{IsOpened, IsSoundOut}
use Rattle.qz_journal.specs.Journals.{Ledger}
use Rattle.qz_loading.specs.Places.{catalog_place, part_place}
use Rattle.qz_shard.specs.Keeping as part
use Rattle.qz_terms.specs.declared.record.Record.{Record}
use Rattle.qz_terms.specs.Legal.{AllAgree, IsSchool}

-- a catalogue whose journal keeps exactly the payloads that a file stood for, which spell its records
pub record IsCatalogOf {D : Type 0} (moment : D → ℕ) (left_at : D → ℕ → List ℕ → Type 0) (file : File) (s : catalog.Keeping (Ledger D)) : Type 0 where
  pub payloads : List (List ℕ)
  pub opened : IsOpened moment left_at file s.keeper payloads
  pub loaded : catalog.IsOpened payloads s.keeper s

-- the same of the shard with this index, of so many
pub record IsPartOf {D : Type 0} (moment : D → ℕ) (left_at : D → ℕ → List ℕ → Type 0) (file : File) (index count : ℕ) (s : part.Keeping (Ledger D)) : Type 0 where
  pub payloads : List (List ℕ)
  pub opened : IsOpened moment left_at file s.keeper payloads
  pub loaded : part.IsOpened index count payloads s.keeper s

-- these are the first of so many shards, in order, each of its file
pub record ArePartsOf {D : Type 0} (moment : D → ℕ) (left_at : D → ℕ → List ℕ → Type 0) (folder : List ℕ) (files : Files) (count : ℕ) (parts : List (part.Keeping (Ledger D))) : Type 0 where
  pub each : (k : ℕ) (s : part.Keeping (Ledger D)) → slice_get parts k ≡ Some s → IsPartOf moment left_at (files.file (part_place folder k)) k count s

-- each of their records agrees with a catalogue
pub record ShardsAgree {K : Type 0} (c : List Record) (parts : List (part.Keeping K)) : Type 0 where
  pub each : (k : ℕ) (s : part.Keeping K) → slice_get parts k ≡ Some s → AllAgree c s.held.list

-- the shards' lists, without records in doubt
abbrev pub lists_of : {K : Type 0} → List (part.Keeping K) → List (List Record)
lists_of parts = map (λ s. s.held.list) parts

-- The lists of the files of a folder, each of its own, are those of a school.
pub record IsLoadedFrom {D : Type 0} (moment : D → ℕ) (left_at : D → ℕ → List ℕ → Type 0) (folder : List ℕ) (files : Files) (c : catalog.Keeping (Ledger D)) (parts : List (part.Keeping (Ledger D))) : Type 0 where
  pub catalog_is : IsCatalogOf moment left_at (files.file (catalog_place folder)) c
  pub parts_are : ArePartsOf moment left_at folder files (length parts) parts
  pub school : IsSchool c.held.list (lists_of parts)

-- ---- what fails no call

-- no disk of these shards fails a call, or has failed one
pub record AreSound {D : Type 0} (sound : D → Type 0) (faults : D → ℕ) (parts : List (part.Keeping (Ledger D))) : Type 0 where
  pub disk : (k : ℕ) (s : part.Keeping (Ledger D)) → slice_get parts k ≡ Some s → sound s.keeper.disk
  pub no_faults : (k : ℕ) (s : part.Keeping (Ledger D)) → slice_get parts k ≡ Some s → faults s.keeper.disk ≡ 0

-- nor does a keeper of them, where its file was told
pub record AreSoundOut {D : Type 0} (sound : D → Type 0) (faults : D → ℕ) (folder : List ℕ) (files : Files) (parts : List (part.Keeping (Ledger D))) : Type 0 where
  pub each : (k : ℕ) (s : part.Keeping (Ledger D)) → slice_get parts k ≡ Some s → IsSoundOut sound faults (files.file (part_place folder k)) s.keeper
