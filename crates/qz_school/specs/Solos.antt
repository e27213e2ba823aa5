-- A school whose lists keepers keep: what it is seen as, what it keeps, and what its keepers do.
use Rattle.std.specs.List.{AllZip}
use Rattle.std.specs.Prelude.{◌≡◌, ℕ, ◌+◌, ◌<◌, true, List, length, map, slice_get, sum_by, is_some, Some}
use Rattle.qz_catalog.specs.Keeping as records
use Rattle.qz_keeper.specs.Lists.{EachMayStand}
use Rattle.qz_keeper.specs.Recording.{GoesOn, HasFailed}
use Rattle.qz_shard.specs.Keeping as part
use Rattle.qz_terms.specs.declared.record.Record.{Record}
use Rattle.qz_terms.specs.Catalog.{shards}
use Rattle.qz_terms.specs.Legal.{AllAgree}
use Rattle.qz_terms.specs.Serial.{Held, Lists}

-- a catalogue and its shards, each with its keeper
pub record School (K : Type 0) : Type 0 where
  pub catalog : records.Keeping K
  pub parts : List (part.Keeping K)

abbrev pub school_of : {K : Type 0} → records.Keeping K → List (part.Keeping K) → School K
school_of c ss = record { catalog = c; parts = ss }

-- ---- its lists

abbrev pub held_of : {K : Type 0} → List (part.Keeping K) → List Held
held_of parts = map (λ s. s.held) parts

abbrev pub lists_in : {K : Type 0} → School K → Lists
lists_in a = record { records = a.catalog.held; parts = held_of a.parts }

-- each shard has the index of its place, of so many
pub record ArePlaced {K : Type 0} (parts : List (part.Keeping K)) : Type 0 where
  pub each : (k : ℕ) (s : part.Keeping K) → slice_get parts k ≡ Some s → (s.index ≡ k) × (s.count ≡ length parts)

-- each list of a shard that may stand agrees with a catalogue
pub record AgreeAll {K : Type 0} (c : List Record) (parts : List (part.Keeping K)) : Type 0 where
  pub each : (k : ℕ) (s : part.Keeping K) → slice_get parts k ≡ Some s → EachMayStand (AllAgree c) s.held

-- There are as many shards as the catalogue was founded with, each at its place, and each agrees with it.
pub record IsSolo {K : Type 0} (c : records.Keeping K) (parts : List (part.Keeping K)) : Type 0 where
  pub some : 0 < length parts
  pub placed : ArePlaced parts
  pub founded : shards c.held.list ≡ Some (length parts)
  pub agree : AgreeAll c.held.list parts

-- ---- its keepers

-- how often they failed, in all
abbrev pub faults_of : {K : Type 0} → (K → ℕ) → School K → ℕ
faults_of faults a = faults a.catalog.keeper + sum_by (λ s. faults s.keeper) a.parts

-- they fail no call
pub record AreSound {K : Type 0} (sound : K → Type 0) (a : School K) : Type 0 where
  pub catalog : sound a.catalog.keeper
  pub parts : (k : ℕ) (s : part.Keeping K) → slice_get a.parts k ≡ Some s → sound s.keeper

-- A keeper failed: its list's count rose, it isn't sound, and a record of that list is in doubt since.
pub data Fails {K : Type 0} (sound : K → Type 0) (faults : K → ℕ) (a b : School K) : Type 0 where
  of_catalog : HasFailed (sound a.catalog.keeper) (faults a.catalog.keeper) (faults b.catalog.keeper) → is_some b.catalog.held.doubt ≡ true → Fails sound faults a b
  of_shard : (k : ℕ) (s t : part.Keeping K) → slice_get a.parts k ≡ Some s → slice_get b.parts k ≡ Some t → HasFailed (sound s.keeper) (faults s.keeper) (faults t.keeper) → is_some t.held.doubt ≡ true → Fails sound faults a b

-- whatever became of the calls at one shard
abbrev pub PartGoesOn : {K : Type 0} → (K → Type 0) → (K → ℕ) → part.Keeping K → part.Keeping K → Type 0
PartGoesOn sound faults s t = GoesOn (sound s.keeper) (sound t.keeper) (faults s.keeper) (faults t.keeper)

-- whatever became of calls: at the catalogue, and at each shard at its place, of which there are as many
pub record GoOn {K : Type 0} (sound : K → Type 0) (faults : K → ℕ) (a b : School K) : Type 0 where
  pub catalog : GoesOn (sound a.catalog.keeper) (sound b.catalog.keeper) (faults a.catalog.keeper) (faults b.catalog.keeper)
  pub parts : AllZip (PartGoesOn sound faults) a.parts b.parts
