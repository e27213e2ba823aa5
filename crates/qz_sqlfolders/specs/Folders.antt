-- The two databases of a school's folder: what their keepers tell, and what becomes of them.
use Rattle.std.specs.Prelude.{◌≡◌, ◌≢◌, ◌⊎◌, ℕ, Bool, List, Option, IfSome}
use Rattle.qz_disks.specs.Keepers.{MayStand, Reopens}
use Rattle.qz_disks.specs.Shelves.{Place, place}
use Rattle.qz_sqlbases.specs.Databases.{Lists, Standing}
use Rattle.qz_sqlfolders.specs.declared.opening.Opened.{Opened}
use Rattle.qz_sqlfolders.specs.Names.{catalog_name, part_name}
use Rattle.qz_sqlkeep.specs.Keeping.{Keeping, Stands, kept_in}
use Rattle.sqlite.specs.Held.{state}
use Rattle.sqlite.specs.State.{HasCleanDisk}
use Rattle.sqlite_trees.specs.declared.store.Store.{Ghosts}

-- ---- what keepers tell

-- what a keeper tells: its payloads, and the one in doubt
pub record Telling (K : Type 0) : Type 0 where
  pub kept : K → Option (List (List ℕ))
  pub doubt : K → Option (List ℕ)

-- a keeper over a database
abbrev pub sql_telling : {S : Type 0} → Bool → Ghosts S → Telling (Keeping S)
sql_telling tells store = record { kept = λ k. kept_in tells (state store k.conn).now; doubt = λ k. k.doubt }

-- the list as it stands where its keeper is given back
abbrev pub standing_of : {K : Type 0} → Telling K → K → Standing
standing_of t keeper = record { payloads = t.kept keeper; doubt = t.doubt keeper }

-- a list as it stands tells the same
abbrev pub standing : Telling Standing
standing = record { kept = λ s. s.payloads; doubt = λ s. s.doubt }

-- what is seen of bases: the lists in their databases, and how often they have failed
pub record Based : Type 0 where
  pub lists : Lists
  pub faults : ℕ

-- ---- the databases

abbrev pub catalog_place : List ℕ → Place
catalog_place folder = place folder catalog_name

abbrev pub part_place : List ℕ → Place
part_place folder = place folder part_name

-- both databases of a folder are out, or neither is
pub record AreOut (out : Bool) (folder : List ℕ) (lists : Lists) : Type 0 where
  pub catalog : lists.is_out (catalog_place folder) ≡ out
  pub part : lists.is_out (part_place folder) ≡ out

-- a place of neither
pub record IsElsewhere (folder : List ℕ) (at : Place) : Type 0 where
  pub no_catalog : at ≢ catalog_place folder
  pub no_part : at ≢ part_place folder

-- each other database is as it was, and out where it was out
pub record KeepsElsewhere (folder : List ℕ) (old new : Lists) : Type 0 where
  pub is_out : (at : Place) → IsElsewhere folder at → new.is_out at ≡ old.is_out at
  pub list : (at : Place) → IsElsewhere folder at → new.list at ≡ old.list at

-- ---- what is found in them

-- a database was opened, and what was found is its list: none is in doubt then
abbrev pub IsSettled : Standing → Standing → List (List ℕ) → Type 0
IsSettled old new found = Reopens old.payloads new.payloads old.doubt new.doubt found

-- it was handed out as a keeper, which hasn't failed
pub record IsOpenedAs {K : Type 0} (t : Telling K) (faults : K → ℕ) (stood : Standing) (keeper : K) (found : List (List ℕ)) : Type 0 where
  pub settled : IsSettled stood (standing_of t keeper) found
  pub kept : IfSome (t.kept keeper) (λ told. told ≡ found)
  pub fresh : faults keeper ≡ 0

-- both were
pub record AreOpened {K : Type 0} (t : Telling K) (faults : K → ℕ) (folder : List ℕ) (lists : Lists) (opened : Opened K) : Type 0 where
  pub catalog : IsOpenedAs t faults (lists.list (catalog_place folder)) opened.keepers.catalog opened.catalog
  pub part : IsOpenedAs t faults (lists.list (part_place folder)) opened.keepers.part opened.part

-- the database of a keeper is the tables of these payloads, while nobody else writes it and the disk returns what was written
abbrev pub HasTablesOf : {S : Type 0} → Ghosts S → Keeping S → List (List ℕ) → Type 0
HasTablesOf store keeper payloads = HasCleanDisk (state store keeper.conn) → Stands payloads (state store keeper.conn).now

-- so are both, of the payloads that were found
pub record AreTablesFound {S : Type 0} (store : Ghosts S) (opened : Opened (Keeping S)) : Type 0 where
  pub catalog : HasTablesOf store opened.keepers.catalog opened.catalog
  pub part : HasTablesOf store opened.keepers.part opened.part

-- where a database tells its list, the payloads that were found are these, or these with the one in doubt
abbrev pub IsFoundIn : Standing → List (List ℕ) → Type 0
IsFoundIn stood found = IfSome stood.payloads (λ payloads. MayStand payloads stood.doubt found)

-- these were found in the databases of a folder
pub record AreFoundIn (folder : List ℕ) (lists : Lists) (cs ps : List (List ℕ)) : Type 0 where
  pub catalog_found : IsFoundIn (lists.list (catalog_place folder)) cs
  pub part_found : IsFoundIn (lists.list (part_place folder)) ps

-- ---- what becomes of them

-- a database wasn't opened, or nothing was asked of it
abbrev pub Stays : Standing → Standing → Type 0
Stays old new = (new ≡ old) ⊎ ((found : List (List ℕ)) × IsSettled old new found)

-- neither was opened but the catalogue's, of which nothing was asked
pub record IsUnopened (folder : List ℕ) (old new : Lists) : Type 0 where
  pub catalog : Stays (old.list (catalog_place folder)) (new.list (catalog_place folder))
  pub part : new.list (part_place folder) ≡ old.list (part_place folder)
