-- What the files of a school's folder are read as: its lists, or why they aren't.
use Rattle.std.specs.Prelude.{◌≡◌, ◌⊎◌, ℕ, ◌-◌, ◌^◌, ◌<◌, List, [], length, take, min, Some, Ok, Err, IfSome}
use Rattle.qz_catalog.specs.Loads as catalog
use Rattle.qz_disks.specs.Shelves.{File, Files}
use Rattle.qz_folders.specs.Names.{catalog_name, part_name}
use Rattle.qz_journal.specs.Frames.{stands_for}
use Rattle.qz_journal.specs.Journals.{gate_behind}
use Rattle.qz_loading.specs.declared.fault.LoadFault.{LoadFault}
use Rattle.qz_loading.specs.declared.fault.LoadFault.TheVariants.{Damaged, Behind, Altered, NotFounded, Fault, Memory}
use Rattle.qz_loading.specs.Places.{catalog_place, part_place}
use Rattle.qz_shard.specs.Loads as part
use Rattle.qz_terms.specs.declared.record.Record.{Record}
use Rattle.qz_terms.specs.Catalog.{shards}
use Rattle.qz_terms.specs.Legal.{AllAgree, IsAltered, IsBehind}

-- ---- one file

-- the place of the gate of a payload, the one at this place of these, from 1; one past the last value of a `u64` is told as that value
abbrev pub gate_of : List (List ℕ) → ℕ → ℕ
gate_of payloads nth = min (gate_behind (take (nth - 1) payloads)) (2 ^ 64 - 1)

-- the payload whose gate stands here is the first that spells no record that may stand there
pub record IsIllegalAt (IsFirstIllegal : List (List ℕ) → ℕ → Type 0) (payloads : List (List ℕ)) (here : ℕ) : Type 0 where
  pub nth : ℕ
  pub first : IsFirstIllegal payloads nth
  pub here_is : here ≡ gate_of payloads nth

-- Why no list is read of these bytes: they are damaged at this place, or here is the gate of the first payload that spells no record
-- that may stand there.
pub data IsDamagedAt (IsFirstIllegal : List (List ℕ) → ℕ → Type 0) (bytes : List ℕ) (here : ℕ) : Type 0 where
  by_bytes : stands_for bytes ≡ Err here → IsDamagedAt IsFirstIllegal bytes here
  by_record : (payloads : List (List ℕ)) → stands_for bytes ≡ Ok payloads → IsIllegalAt IsFirstIllegal payloads here → IsDamagedAt IsFirstIllegal bytes here

abbrev pub CatalogIsDamaged : File → ℕ → Type 0
CatalogIsDamaged file here = IfSome file.reads (λ bytes. IsDamagedAt catalog.IsFirstIllegal bytes here)

-- of the shard with this index, of so many
abbrev pub PartIsDamaged : File → ℕ → ℕ → ℕ → Type 0
PartIsDamaged file index count here = IfSome file.reads (λ bytes. IsDamagedAt (part.IsFirstIllegal index count) bytes here)

-- where a file tells, it stands for the spellings of these records, which are a catalogue
pub record IsCatalogIn (file : File) (c : List Record) : Type 0 where
  pub payloads : List (List ℕ)
  pub stands : IfSome file.reads (λ bytes. stands_for bytes ≡ Ok payloads)
  pub loaded : catalog.IsLoaded payloads c

-- the same of the records of a shard
pub record IsPartIn (file : File) (index count : ℕ) (h : List Record) : Type 0 where
  pub payloads : List (List ℕ)
  pub stands : IfSome file.reads (λ bytes. stands_for bytes ≡ Ok payloads)
  pub loaded : part.IsLoaded index count payloads (record { index = index; count = count; records = h })

-- ---- why no list is read of payloads

abbrev pub IsCatalogRefused : List (List ℕ) → LoadFault → Type 0
IsCatalogRefused payloads (Damaged name here) = (name ≡ catalog_name) × IsIllegalAt catalog.IsFirstIllegal payloads here
IsCatalogRefused payloads (Behind shard position end) = ⊥
IsCatalogRefused payloads (Altered shard nth) = ⊥
IsCatalogRefused payloads NotFounded = payloads ≡ []
IsCatalogRefused payloads Fault = ⊥
IsCatalogRefused payloads Memory = Unit {0}

abbrev pub IsPartRefused : ℕ → ℕ → List (List ℕ) → LoadFault → Type 0
IsPartRefused index count payloads (Damaged name here) = (name ≡ part_name index) × IsIllegalAt (part.IsFirstIllegal index count) payloads here
IsPartRefused index count payloads (Behind shard position end) = ⊥
IsPartRefused index count payloads (Altered shard nth) = ⊥
IsPartRefused index count payloads NotFounded = ⊥
IsPartRefused index count payloads Fault = ⊥
IsPartRefused index count payloads Memory = Unit {0}

-- ---- why one file isn't opened

-- that of the catalogue
abbrev pub IsCatalogFault : File → LoadFault → Type 0
IsCatalogFault file (Damaged name here) = (name ≡ catalog_name) × CatalogIsDamaged file here
IsCatalogFault file (Behind shard position end) = ⊥
IsCatalogFault file (Altered shard nth) = ⊥
IsCatalogFault file NotFounded = IfSome file.reads (λ bytes. stands_for bytes ≡ Ok [])
IsCatalogFault file Fault = Unit {0}
IsCatalogFault file Memory = Unit {0}

-- that of a shard
abbrev pub IsPartFault : File → ℕ → ℕ → LoadFault → Type 0
IsPartFault file index count (Damaged name here) = (name ≡ part_name index) × PartIsDamaged file index count here
IsPartFault file index count (Behind shard position end) = ⊥
IsPartFault file index count (Altered shard nth) = ⊥
IsPartFault file index count NotFounded = ⊥
IsPartFault file index count Fault = Unit {0}
IsPartFault file index count Memory = Unit {0}

-- ---- the lists of the shards, judged in order

-- a shard's file is read as a list of which each record agrees with a catalogue
pub record IsAgreedIn (file : File) (index count : ℕ) (c : List Record) : Type 0 where
  pub own : List Record
  pub is_read : IsPartIn file index count own
  pub agree : AllAgree c own

-- the first record of its list that disagrees names this position, past the end of the catalogue
pub record IsPartBehind (file : File) (index count : ℕ) (c : List Record) (position : ℕ) : Type 0 where
  pub own : List Record
  pub is_read : IsPartIn file index count own
  pub behind : IsBehind c own position

-- it names none, and stands at this place, from 1
pub record IsPartAltered (file : File) (index count : ℕ) (c : List Record) (nth : ℕ) : Type 0 where
  pub own : List Record
  pub is_read : IsPartIn file index count own
  pub altered : IsAltered c own nth

-- why it isn't gone on behind this list of the shard with this index, of so many
abbrev pub IsDisagreement : List Record → ℕ → List Record → LoadFault → Type 0
IsDisagreement c index own (Damaged name here) = ⊥
IsDisagreement c index own (Behind shard position end) = (shard ≡ index) × (end ≡ length c) × IsBehind c own position
IsDisagreement c index own (Altered shard nth) = (shard ≡ index) × IsAltered c own nth
IsDisagreement c index own NotFounded = ⊥
IsDisagreement c index own Fault = ⊥
IsDisagreement c index own Memory = Unit {0}

-- why it isn't gone on behind its file: what is damaged there comes first
abbrev pub IsShardFault : File → ℕ → ℕ → List Record → LoadFault → Type 0
IsShardFault file index count c (Damaged name here) = (name ≡ part_name index) × PartIsDamaged file index count here
IsShardFault file index count c (Behind shard position end) = (shard ≡ index) × (end ≡ length c) × IsPartBehind file index count c position
IsShardFault file index count c (Altered shard nth) = (shard ≡ index) × IsPartAltered file index count c nth
IsShardFault file index count c NotFounded = ⊥
IsShardFault file index count c Fault = Unit {0}
IsShardFault file index count c Memory = Unit {0}

-- Of the files of so many shards, in order, this is told: those in front of one are read, and each of their records agrees with the
-- catalogue, and it isn't gone on behind that one.
pub record IsPartsFault (folder : List ℕ) (files : Files) (c : List Record) (count : ℕ) (fault : LoadFault) : Type 0 where
  pub index : ℕ
  pub within : index < count
  pub in_front : (k : ℕ) → k < index → IsAgreedIn (files.file (part_place folder k)) k count c
  pub why : IsShardFault (files.file (part_place folder index)) index count c fault

-- ---- why a school isn't loaded

-- the catalogue is read, and it was founded with so many shards
pub record IsFounded (folder : List ℕ) (files : Files) (c : List Record) (count : ℕ) : Type 0 where
  pub catalog_is : IsCatalogIn (files.file (catalog_place folder)) c
  pub founded : shards c ≡ Some count

-- the catalogue is read, and this is told of its shards
pub record IsToldOfShards (folder : List ℕ) (files : Files) (fault : LoadFault) : Type 0 where
  pub c : List Record
  pub count : ℕ
  pub founded : IsFounded folder files c count
  pub parts : IsPartsFault folder files c count fault

-- a shard's file is damaged
abbrev pub IsPartUnread : List ℕ → Files → List ℕ → ℕ → Type 0
IsPartUnread folder files name here = IsToldOfShards folder files (Damaged name here)

-- a shard's record names this position, past the end of the catalogue, which has so many records
abbrev pub IsBehindOf : List ℕ → Files → ℕ → ℕ → ℕ → Type 0
IsBehindOf folder files shard position end = IsToldOfShards folder files (Behind shard position end)

-- it names none, and stands at this place of its shard, from 1
abbrev pub IsAlteredOf : List ℕ → Files → ℕ → ℕ → Type 0
IsAlteredOf folder files shard nth = IsToldOfShards folder files (Altered shard nth)

abbrev pub IsLoadFault : List ℕ → Files → LoadFault → Type 0
IsLoadFault folder files (Damaged name here) = IsCatalogFault (files.file (catalog_place folder)) (Damaged name here) ⊎ IsPartUnread folder files name here
IsLoadFault folder files (Behind shard position end) = IsBehindOf folder files shard position end
IsLoadFault folder files (Altered shard nth) = IsAlteredOf folder files shard nth
IsLoadFault folder files NotFounded = IsCatalogFault (files.file (catalog_place folder)) NotFounded
IsLoadFault folder files Fault = Unit {0}
IsLoadFault folder files Memory = Unit {0}
