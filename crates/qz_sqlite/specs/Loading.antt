-- A school of one shard whose two lists stand in databases: as it is loaded of them, and as they take it back.
use Rattle.std.specs.Prelude.{◌≡◌, ◌⊎◌, ℕ, List, [], ◌∷◌}
use Rattle.qz_keeper.specs.Lists.{IsStored}
use Rattle.qz_loading.specs.declared.fault.LoadFault.{LoadFault}
use Rattle.qz_loading.specs.declared.fault.LoadFault.TheVariants.{Fault, Memory}
use Rattle.qz_school.specs.Solos.{School, lists_in}
use Rattle.qz_shard.specs.Keeping as part
use Rattle.qz_solo.specs.Standing.{StandAsSchool}
use Rattle.qz_sqlbases.specs.Databases.{Lists, Standing}
use Rattle.qz_sqlfolders.specs.declared.opening.Opened.{Opened}
use Rattle.qz_sqlfolders.specs.Folders.{AreFoundIn, AreOpened, IsSettled, Stays, Telling, catalog_place, part_place, standing}
use Rattle.qz_sqlite.specs.Founding.{IsGivenBack}
use Rattle.qz_sqlite.specs.Keepers.{IsReadFrom}
use Rattle.qz_sqlite.specs.Reading.{AreRefused, with_founding}

-- The school of what was found in the databases of a folder, and this holds of it. The keepers that were handed out hadn't failed.
pub record IsLoadedFrom {K : Type 0} (t : Telling K) (faults : K → ℕ) (found : Opened K → Type 0) (token folder : List ℕ) (lists : Lists) (s : School K) : Type 0 where
  pub opened : Opened K
  pub are_found : found opened
  pub are_opened : AreOpened t faults folder lists opened
  pub is_read : IsReadFrom t token opened.catalog opened.part opened.keepers s

-- ---- why it isn't loaded

-- what was found aren't a school's lists
pub record AreUnread (token folder : List ℕ) (lists : Lists) (told : LoadFault) : Type 0 where
  pub cs : List (List ℕ)
  pub ps : List (List ℕ)
  pub found : AreFoundIn folder lists cs ps
  pub refused : AreRefused (with_founding token cs) ps told

abbrev pub IsLoadFault : List ℕ → List ℕ → Lists → LoadFault → Type 0
IsLoadFault token folder lists Fault = Unit {0}
IsLoadFault token folder lists Memory = Unit {0}
IsLoadFault token folder lists told = AreUnread token folder lists told

-- no more than the founding was asked of the catalogue's, where it had no payload
pub record IsAsked (token : List ℕ) (old new : Standing) (told : LoadFault) : Type 0 where
  pub found : List (List ℕ)
  pub settled : Standing
  pub opened : IsSettled old settled found
  pub back : IsGivenBack standing token found settled new told

-- both stand so once this is told
pub record ListsStay (token folder : List ℕ) (old new : Lists) (told : LoadFault) : Type 0 where
  pub catalog : Stays (old.list (catalog_place folder)) (new.list (catalog_place folder)) ⊎ IsAsked token (old.list (catalog_place folder)) (new.list (catalog_place folder)) told
  pub part : Stays (old.list (part_place folder)) (new.list (part_place folder))

-- ---- as they are given back

-- The databases of a folder keep the lists of a school, each with its record in doubt in doubt there too. Whichever of the lists that may
-- stand do, they are a school's.
pub record AreStoredIn {K : Type 0} (folder : List ℕ) (lists : Lists) (s : School K) : Type 0 where
  pub own : part.Keeping K
  pub parts_are : s.parts ≡ own ∷ []
  pub catalog_stored : IsStored (lists.list (catalog_place folder)).payloads (lists.list (catalog_place folder)).doubt s.catalog.held
  pub part_stored : IsStored (lists.list (part_place folder)).payloads (lists.list (part_place folder)).doubt own.held
  pub school : StandAsSchool (lists_in s)
