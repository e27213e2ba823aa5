-- Where the files of a school's lists stand, which of them are out, and what becomes of the others.
use Rattle.std.specs.Prelude.{◌≡◌, ◌≢◌, ◌⊎◌, ℕ, ◌<◌, List, Bool, true, false, IfSome}
use Rattle.qz_terms.specs.declared.limits.TheConstants.{MOST_SHARDS}
use Rattle.qz_disks.specs.Shelves.{Place, place, File, Files, SameFile}
use Rattle.qz_folders.specs.Names.{catalog_name, part_name}
use Rattle.qz_folders.specs.Opening.{StandsStill}
use Rattle.qz_loading.specs.declared.fault.LoadFault.{LoadFault}
use Rattle.qz_loading.specs.declared.fault.LoadFault.TheVariants.{Damaged, Behind, Altered, NotFounded, Fault, Memory}

abbrev pub catalog_place : List ℕ → Place
catalog_place folder = place folder catalog_name

abbrev pub part_place : List ℕ → ℕ → Place
part_place folder k = place folder (part_name k)

-- a place of none of the first so many shards
pub record IsNoPart (folder : List ℕ) (count : ℕ) (at : Place) : Type 0 where
  pub each : (k : ℕ) → k < count → at ≢ part_place folder k

-- nor of the catalogue
pub record IsElsewhere (folder : List ℕ) (count : ℕ) (at : Place) : Type 0 where
  pub no_catalog : at ≢ catalog_place folder
  pub no_part : IsNoPart folder count at

-- each file but those of the first so many shards is as it was, and out where it was out
pub record KeepsOthers (folder : List ℕ) (count : ℕ) (old new : Files) : Type 0 where
  pub is_out : (at : Place) → IsNoPart folder count at → new.is_out at ≡ old.is_out at
  pub file : (at : Place) → IsNoPart folder count at → SameFile (old.file at) (new.file at)

-- so is each but theirs and the catalogue's
pub record KeepsElsewhere (folder : List ℕ) (count : ℕ) (old new : Files) : Type 0 where
  pub is_out : (at : Place) → IsElsewhere folder count at → new.is_out at ≡ old.is_out at
  pub file : (at : Place) → IsElsewhere folder count at → SameFile (old.file at) (new.file at)

-- the files of the first so many shards are out, or are not
pub record PartsAre (out : Bool) (folder : List ℕ) (count : ℕ) (files : Files) : Type 0 where
  pub each : (k : ℕ) → k < count → files.is_out (part_place folder k) ≡ out

-- of a folder the files of a school's lists are out, and no others
pub record IsOut (folder : List ℕ) (count : ℕ) (files : Files) : Type 0 where
  pub catalog : files.is_out (catalog_place folder) ≡ true
  pub parts : PartsAre true folder count files
  pub others : (name : List ℕ) → IsElsewhere folder count (place folder name) → files.is_out (place folder name) ≡ false

-- where a file tells, each image that a crash may leave of it stands for what one stood for that it might have left before, damage
-- included
abbrev pub StaysLike : File → File → Type 0
StaysLike old new = IfSome old.reads (λ _. StandsStill old.left new.left)

-- the file of one shard does, those behind it are as they were, and so is each other but those in front of it
pub record LeavesRest (folder : List ℕ) (first count : ℕ) (old new : Files) : Type 0 where
  pub next : StaysLike (old.file (part_place folder first)) (new.file (part_place folder first))
  pub behind : (k : ℕ) → first < k → k < count → SameFile (old.file (part_place folder k)) (new.file (part_place folder k))
  pub others : (at : Place) → IsNoPart folder count at → SameFile (old.file at) (new.file at)
  pub is_out : (at : Place) → IsNoPart folder first at → new.is_out at ≡ old.is_out at

-- the files of the first so many shards do, and each other file is as it was
pub record PartsStay (folder : List ℕ) (count : ℕ) (old new : Files) : Type 0 where
  pub parts : (k : ℕ) → k < count → StaysLike (old.file (part_place folder k)) (new.file (part_place folder k))
  pub others : (at : Place) → IsNoPart folder count at → SameFile (old.file at) (new.file at)
  pub is_out : (at : Place) → new.is_out at ≡ old.is_out at

-- so do those of a school's lists, of at most 64 shards
pub record ListsStay (folder : List ℕ) (old new : Files) : Type 0 where
  pub catalog : StaysLike (old.file (catalog_place folder)) (new.file (catalog_place folder))
  pub parts : (k : ℕ) → k < MOST_SHARDS → StaysLike (old.file (part_place folder k)) (new.file (part_place folder k))
  pub others : (at : Place) → IsElsewhere folder 64 at → SameFile (old.file at) (new.file at)
  pub is_out : (at : Place) → new.is_out at ≡ old.is_out at

-- ---- files that weren't reached

-- this is the name of the file of a shard in front
pub record IsInFront (name : List ℕ) (k : ℕ) : Type 0 where
  pub index : ℕ
  pub name_is : name ≡ part_name index
  pub in_front : index < k

-- where this is told the file of this shard wasn't reached
abbrev pub IsUnreached : LoadFault → ℕ → Type 0
IsUnreached (Damaged name here) k = (name ≡ catalog_name) ⊎ IsInFront name k
IsUnreached (Behind shard position end) k = shard < k
IsUnreached (Altered shard nth) k = shard < k
IsUnreached NotFounded k = Unit {0}
IsUnreached Fault k = ⊥
IsUnreached Memory k = ⊥

-- the files of the shards that weren't reached are as they were
pub record LeavesUnreached (folder : List ℕ) (old new : Files) (fault : LoadFault) : Type 0 where
  pub each : (k : ℕ) → k < MOST_SHARDS → IsUnreached fault k → SameFile (old.file (part_place folder k)) (new.file (part_place folder k))
