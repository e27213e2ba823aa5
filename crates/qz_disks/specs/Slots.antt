-- The slots in which a shelf keeps what it knows of its files, and what shelves in memory and over folders hold.
use Rattle.std.specs.Prelude.{◌≡◌, ◌≢◌, ℕ, Bool, true, false, ◌&&◌, List, [], length, Option, Some, None, find, option_map, option_and_then, bytes_eq, unwrap_or, is_some, IfSome, refl}
use Rattle.qz_disks.specs.Changes.{Change, content, LeftAt, left_now, History}
use Rattle.qz_disks.specs.Shelves.{Place, File, Files}
use Rattle.qz_disks.specs.declared.slots.Slot.{Slot}

abbrev pub is_at : {T : Type 0} → Place → Slot T → Bool
is_at at slot = bytes_eq slot.folder at.folder && bytes_eq slot.name at.name

-- what stands in the slot of a place, where there is one
abbrev pub stands_at : {T : Type 0} → Place → List (Slot T) → Option T
stands_at at slots = option_map (λ slot. slot.holds) (find (is_at at) slots)

-- something was put into the slot of a place, and the others stay
pub record Puts {T : Type 0} (changed : Place) (value : T) (old new : List (Slot T)) : Type 0 where
  pub there : stands_at changed new ≡ Some value
  pub others : (at : Place) → at ≢ changed → stands_at at new ≡ stands_at at old

-- a file in memory that went through these changes
abbrev pub memory_file : List Change → File
memory_file changes = record { reads = Some (content changes); left = LeftAt changes (length changes) }

-- a file of which nothing is told
abbrev pub untold : File
untold = record { reads = None; left = λ _. ⊥ }

-- a shelf in memory has a slot for each file that was put there or handed out, in which a disk stands while it isn't out
abbrev pub is_taken : Option (Option History) → Bool
is_taken None = false
is_taken (Some None) = true
is_taken (Some (Some disk)) = false

abbrev pub file_in : Option (Option History) → File
file_in None = memory_file []
file_in (Some None) = untold
file_in (Some (Some disk)) = memory_file disk.changes

abbrev pub memory_files : List (Slot (Option History)) → Files
memory_files slots = record { is_out = λ at. is_taken (stands_at at slots); file = λ at. file_in (stands_at at slots) }

reads_in : (o : Option (Option History)) → is_taken o ≡ false → IfSome (file_in o).reads (file_in o).left
reads_in None here = left_now []
reads_in (Some None) here = tt
reads_in (Some (Some disk)) here = left_now disk.changes

-- a file in memory may be left as it reads
pub memory_reads_now : (slots : List (Slot (Option History))) (at : Place) → (memory_files slots).is_out at ≡ false
    → IfSome ((memory_files slots).file at).reads ((memory_files slots).file at).left
memory_reads_now slots at here = reads_in (stands_at at slots) here

told_in : (o p : Option (Option History)) → is_taken o ≡ false → is_taken p ≡ false → is_some (file_in o).reads ≡ is_some (file_in p).reads
told_in (Some None) p here there = absurd cc
told_in None None here there = refl
told_in None (Some None) here there = absurd cc
told_in None (Some (Some disk)) here there = refl
told_in (Some (Some disk)) None here there = refl
told_in (Some (Some disk)) (Some None) here there = absurd cc
told_in (Some (Some disk)) (Some (Some other)) here there = refl

-- each file in memory is told
pub memory_tells_alike : (one other : List (Slot (Option History))) (at : Place) → (memory_files one).is_out at ≡ false → (memory_files other).is_out at ≡ false
    → is_some ((memory_files one).file at).reads ≡ is_some ((memory_files other).file at).reads
memory_tells_alike one other at here there = told_in (stands_at at one) (stands_at at other) here there

-- a disk on which nothing ever happened
abbrev pub empty_disk : History
empty_disk = record { changes = []; room = record { calls = 0; bytes = 0 }; failing = []; calls = 0; faults = 0 }

-- the disk that stands at a place of a shelf in memory; an empty one where none does
abbrev pub disk_at : Place → List (Slot (Option History)) → History
disk_at at slots = unwrap_or (option_and_then (λ disk. disk) (stands_at at slots)) empty_disk

-- a shelf over folders has a slot for each file that was handed out, which tells whether it is out still
abbrev pub folder_files : List (Slot Bool) → Files
folder_files slots = record { is_out = λ at. unwrap_or (stands_at at slots) false; file = λ _. untold }

-- a shelf in memory: its slots, the numbers of the calls of `disk` that are to fail, and how many calls and faults there were
pub record Cabinet : Type 0 where
  pub slots : List (Slot (Option History))
  pub failing : List ℕ
  pub calls : ℕ
  pub faults : ℕ

-- a shelf over folders: its slots, and its count of faults
pub record Register : Type 0 where
  pub slots : List (Slot Bool)
  pub faults : ℕ

-- A shelf in memory fails no call where none of its own is to fail, and none of a disk that stands there.
pub record IsSound (shelf : Cabinet) : Type 0 where
  pub own : shelf.failing ≡ []
  pub disks : (at : Place) → (disk_at at shelf.slots).failing ≡ []
