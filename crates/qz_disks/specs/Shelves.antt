-- What a shelf tells of its files, and what its calls do to them.
use Rattle.std.specs.Prelude.{◌≡◌, ◌≢◌, ℕ, ◌+◌, ◌-◌, ◌^◌, ◌<◌, ◌≤◌, Bool, true, false, List, Option, Result, IsErrOf, MatchResult}
use Rattle.qz_outside.specs.Causes.{HasRisen}
use Rattle.qz_disks.specs.declared.shelf.ShelfErr.{ShelfErr}
use Rattle.qz_disks.specs.declared.shelf.ShelfErr.TheVariants.{Failed, Memory}

-- where a file stands: a folder, and a name in it
pub record Place : Type 0 where
  pub folder : List ℕ
  pub name : List ℕ

abbrev pub place : List ℕ → List ℕ → Place
place folder name = record { folder = folder; name = name }

-- a file: what a read gives, where it is told, and what a crash now may leave
pub record File : Type 1 where
  pub reads : Option (List ℕ)
  pub left : List ℕ → Type 0

-- the file that a disk is, by what it reads as, its moment, and what a crash at each moment may have left
abbrev pub disk_file : Option (List ℕ) → ℕ → (ℕ → List ℕ → Type 0) → File
disk_file reads moment left_at = record { reads = reads; left = left_at moment }

-- the files of a shelf by their places: which are out, and what is told of each that isn't
pub record Files : Type 1 where
  pub is_out : Place → Bool
  pub file : Place → File

-- a file reads as it did, and a crash may leave of it what it might have left
pub record SameFile (old new : File) : Type 0 where
  pub reads : new.reads ≡ old.reads
  pub keeps : (c : List ℕ) → old.left c → new.left c
  pub adds_nothing : (c : List ℕ) → new.left c → old.left c

-- each file is as it was, and out where it was out
pub record SameFiles (old new : Files) : Type 0 where
  pub is_out : (at : Place) → new.is_out at ≡ old.is_out at
  pub file : (at : Place) → SameFile (old.file at) (new.file at)

-- so is each file but the one at a place
pub record ChangesAt (changed : Place) (old new : Files) : Type 0 where
  pub is_out : (at : Place) → at ≢ changed → new.is_out at ≡ old.is_out at
  pub file : (at : Place) → at ≢ changed → SameFile (old.file at) (new.file at)

-- no file of a folder is out
pub record NoneOutIn (folder : List ℕ) (files : Files) : Type 0 where
  pub each : (name : List ℕ) → files.is_out (place folder name) ≡ false

-- a file was handed out as a disk
pub record HandsOut (at : Place) (old new : Files) (disk : File) : Type 0 where
  pub same : SameFile (old.file at) disk
  pub out : new.is_out at ≡ true
  pub others : ChangesAt at old new

abbrev pub EndsHandingOut : {D : Type 0} → Place → Files → Files → (D → File) → Result D ShelfErr → Type 0
EndsHandingOut at old new file_of result = MatchResult result (λ disk. HandsOut at old new (file_of disk)) (λ _. SameFiles old new)

-- a disk was given back, and is the file from then on
pub record TakesBack (at : Place) (old new : Files) (disk : File) : Type 0 where
  pub same : SameFile disk (new.file at)
  pub here : new.is_out at ≡ false
  pub others : ChangesAt at old new

-- a count of faults rose by so many; one that stands at the last value of a `u64` counts as risen by any number
pub record RisesBy (faults before now : ℕ) : Type 0 where
  pub later : before ≤ now
  pub risen : now < 2 ^ 64 - 1 → now ≡ before + faults

-- a shelf's count of faults never falls; `Failed` is told only where it rose, and `Memory` where it didn't
pub record HasShelfCause {T : Type 0} (before now : ℕ) (result : Result T ShelfErr) : Type 0 where
  pub later : before ≤ now
  pub failed : IsErrOf result Failed → HasRisen before now
  pub steady : IsErrOf result Memory → now ≡ before
