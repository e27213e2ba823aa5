-- A school of one shard, and the keepers of its two lists.
use Rattle.std.specs.Prelude.{◌≡◌, ℕ, List, [], ◌∷◌, Ok}
use Rattle.qz_catalog.specs.Keeping as catalog
use Rattle.qz_keeper.specs.Lists.{IsStored}
use Rattle.qz_loading.specs.declared.fault.LoadFault.{LoadFault}
use Rattle.qz_school.specs.Solos.{School, lists_in}
use Rattle.qz_shard.specs.Keeping as part
use Rattle.qz_solo.specs.Standing.{StandAsSchool}
use Rattle.qz_sqlfolders.specs.declared.opening.Keepers.{Keepers}
use Rattle.qz_sqlfolders.specs.Folders.{Telling}
use Rattle.qz_sqlite.specs.Founding.{Founds, IsGivenBack}
use Rattle.qz_sqlite.specs.Reading.{AreOfSchool, with_founding}
use Rattle.qz_terms.specs.declared.record.Record.{Record}
use Rattle.qz_terms.specs.Legal.{AllAgree}

-- the catalogue of a list of payloads, whose keeper keeps it
pub record IsCatalogOf {K : Type 0} (t : Telling K) (token : List ℕ) (payloads : List (List ℕ)) (keeper : K) (s : catalog.Keeping K) : Type 0 where
  pub opened : catalog.IsOpened (with_founding token payloads) s.keeper s
  pub founded : Founds t token payloads keeper s.keeper (Ok tt)

-- the only shard of a list of payloads, each of whose records agrees with a catalogue
pub record IsOnlyPart {K : Type 0} (c : List Record) (payloads : List (List ℕ)) (keeper : K) (parts : List (part.Keeping K)) : Type 0 where
  pub own : part.Keeping K
  pub parts_are : parts ≡ own ∷ []
  pub opened : part.IsOpened 0 1 payloads keeper own
  pub agree : AllAgree c own.held.list

-- The school of two lists of payloads, whose keepers keep it: none of its records is in doubt.
pub record IsReadFrom {K : Type 0} (t : Telling K) (token : List ℕ) (cs ps : List (List ℕ)) (keepers : Keepers K) (s : School K) : Type 0 where
  pub catalog_is : IsCatalogOf t token cs keepers.catalog s.catalog
  pub part_is : IsOnlyPart s.catalog.held.list ps keepers.part s.parts
  pub school : AreOfSchool (with_founding token cs) ps s.catalog.held.list part_is.own.held.list

-- both keepers are given back: that of the shard as it was
pub record AreGivenBack {K : Type 0} (t : Telling K) (token : List ℕ) (cs : List (List ℕ)) (old new : Keepers K) (told : LoadFault) : Type 0 where
  pub catalog_back : IsGivenBack t token cs old.catalog new.catalog told
  pub part_back : new.part ≡ old.part

-- These are the keepers of its lists, each as it stores its list. Whichever of the lists that may stand do, they are a school's.
pub record AreKeepersOf {K : Type 0} (t : Telling K) (s : School K) (keepers : Keepers K) : Type 0 where
  pub own : part.Keeping K
  pub parts_are : s.parts ≡ own ∷ []
  pub catalog_is : keepers.catalog ≡ s.catalog.keeper
  pub part_is : keepers.part ≡ own.keeper
  pub catalog_stored : IsStored (t.kept keepers.catalog) (t.doubt keepers.catalog) s.catalog.held
  pub part_stored : IsStored (t.kept keepers.part) (t.doubt keepers.part) own.held
  pub school : StandAsSchool (lists_in s)
