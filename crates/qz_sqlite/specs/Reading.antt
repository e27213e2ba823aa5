-- What two lists of payloads are read as, a catalogue's and its only shard's: a school's lists, or why they aren't.
use Rattle.std.specs.Prelude.{◌≡◌, ◌≢◌, ◌⊎◌, ℕ, List, [], ◌∷◌, Some}
use Rattle.qz_catalog.specs.Loads as catalog
use Rattle.qz_folders.specs.Founding.{founding}
use Rattle.qz_loading.specs.declared.fault.LoadFault.{LoadFault}
use Rattle.qz_loading.specs.declared.fault.LoadFault.TheVariants.{Damaged, Behind, Altered, NotFounded, Fault, Memory}
use Rattle.qz_loading.specs.Reading.{IsDisagreement}
use Rattle.qz_shard.specs.Loads as part
use Rattle.qz_sqlfolders.specs.Names.{catalog_name, part_name}
use Rattle.qz_terms.specs.declared.record.Record.{Record}
use Rattle.qz_terms.specs.Catalog.{shards}
use Rattle.qz_terms.specs.Legal.{AllAgree}
use Rattle.qz_terms.specs.Spelling.{spelling}

-- ---- the founding

-- the payload of the founding of a school of one shard, with its manager's token
abbrev pub founding_of : List ℕ → List ℕ
founding_of token = spelling (founding 1 token)

-- A catalogue without a payload is founded. The token isn't looked at where there is one.
abbrev pub with_founding : List ℕ → List (List ℕ) → List (List ℕ)
with_founding token [] = founding_of token ∷ []
with_founding token (payload ∷ payloads) = payload ∷ payloads

-- ---- one list

-- the payloads spell a catalogue, which was founded with one shard
pub record IsCatalogIn (payloads : List (List ℕ)) (c : List Record) : Type 0 where
  pub loaded : catalog.IsLoaded payloads c
  pub one : shards c ≡ Some 1

-- the payloads spell the records of the only shard
abbrev pub IsPartIn : List (List ℕ) → List Record → Type 0
IsPartIn payloads h = part.IsLoaded 0 1 payloads (record { index = 0; count = 1; records = h })

-- Why no catalogue of one shard is read: the payload at this place, from 1, is the first that spells no record that may stand there; or
-- a catalogue was founded with another number of shards, which its first record says.
pub data IsCatalogDamagedAt (payloads : List (List ℕ)) (nth : ℕ) : Type 0 where
  by_record : catalog.IsFirstIllegal payloads nth → IsCatalogDamagedAt payloads nth
  by_shards : (c : List Record) → catalog.IsLoaded payloads c → shards c ≢ Some 1 → nth ≡ 1 → IsCatalogDamagedAt payloads nth

-- ---- both

-- the catalogue is read, and so is the shard
pub record AreRead (cs ps : List (List ℕ)) (c h : List Record) : Type 0 where
  pub catalog_is : IsCatalogIn cs c
  pub part_is : IsPartIn ps h

-- the catalogue is read, and the shard's payload at this place, from 1, is the first that spells no record that may stand there
pub record IsPartDamagedAt (cs ps : List (List ℕ)) (nth : ℕ) : Type 0 where
  pub c : List Record
  pub catalog_is : IsCatalogIn cs c
  pub first : part.IsFirstIllegal 0 1 ps nth

-- the shard is read, and a record of it is the first that disagrees with the catalogue
pub record Disagrees (c : List Record) (ps : List (List ℕ)) (told : LoadFault) : Type 0 where
  pub own : List Record
  pub part_is : IsPartIn ps own
  pub why : IsDisagreement c 0 own told

-- so it is with the catalogue that is read
pub record IsDisagreedBy (cs ps : List (List ℕ)) (told : LoadFault) : Type 0 where
  pub c : List Record
  pub catalog_is : IsCatalogIn cs c
  pub disagrees : Disagrees c ps told

-- ---- what is told of one list

-- why the catalogue isn't read of its payloads
abbrev pub IsCatalogRefused : List (List ℕ) → LoadFault → Type 0
IsCatalogRefused cs (Damaged name nth) = (name ≡ catalog_name) × IsCatalogDamagedAt cs nth
IsCatalogRefused cs (Behind shard position end) = ⊥
IsCatalogRefused cs (Altered shard nth) = ⊥
IsCatalogRefused cs NotFounded = ⊥
IsCatalogRefused cs Fault = ⊥
IsCatalogRefused cs Memory = Unit {0}

-- or its keeper failed to take the founding
abbrev pub IsCatalogFault : List (List ℕ) → LoadFault → Type 0
IsCatalogFault cs Fault = Unit {0}
IsCatalogFault cs told = IsCatalogRefused cs told

-- why the shard isn't read of its payloads
abbrev pub IsPartRefused : List (List ℕ) → LoadFault → Type 0
IsPartRefused ps (Damaged name nth) = (name ≡ part_name) × part.IsFirstIllegal 0 1 ps nth
IsPartRefused ps (Behind shard position end) = ⊥
IsPartRefused ps (Altered shard nth) = ⊥
IsPartRefused ps NotFounded = ⊥
IsPartRefused ps Fault = ⊥
IsPartRefused ps Memory = Unit {0}

-- why it isn't, or a record of it is the first that disagrees with the catalogue
abbrev pub IsPartFault : List Record → List (List ℕ) → LoadFault → Type 0
IsPartFault c ps (Damaged name nth) = IsPartRefused ps (Damaged name nth)
IsPartFault c ps Memory = Unit {0}
IsPartFault c ps told = Disagrees c ps told

-- ---- what is told of both

-- Why they aren't a school's lists: what is damaged in the catalogue comes first, and then in the shard.
abbrev pub AreRefused : List (List ℕ) → List (List ℕ) → LoadFault → Type 0
AreRefused cs ps (Damaged name nth) = ((name ≡ catalog_name) × IsCatalogDamagedAt cs nth) ⊎ ((name ≡ part_name) × IsPartDamagedAt cs ps nth)
AreRefused cs ps (Behind shard position end) = IsDisagreedBy cs ps (Behind shard position end)
AreRefused cs ps (Altered shard nth) = IsDisagreedBy cs ps (Altered shard nth)
AreRefused cs ps NotFounded = ⊥
AreRefused cs ps Fault = Unit {0}
AreRefused cs ps Memory = Unit {0}

-- they are read, and each record of the shard agrees with the catalogue
pub record AreOfSchool (cs ps : List (List ℕ)) (c h : List Record) : Type 0 where
  pub are_read : AreRead cs ps c h
  pub agree : AllAgree c h
