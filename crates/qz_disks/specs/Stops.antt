-- What a stop leaves of a disk in memory, where the bytes written since the last sync are filled in one way.
use Rattle.std.specs.Prelude.{ℕ, List, [], ◌∷◌, length, take, replicate}
use Rattle.qz_disks.specs.Disks.{overwritten}
use Rattle.qz_disks.specs.Changes.{Change, Wrote, Shortened, Synced, changed}
use Rattle.qz_disks.specs.declared.memory_disk.Fill.{Fill}
use Rattle.qz_disks.specs.declared.memory_disk.Fill.TheVariants.{Old, New, Ones, Full}

-- what is left of a write
abbrev pub filled : Fill → ℕ → List ℕ → List ℕ → List ℕ
filled Old at piece left = left
filled New at piece left = overwritten at piece left
filled Ones at piece left = overwritten at (replicate (length piece) 1) left
filled Full at piece left = overwritten at (replicate (length piece) 255) left

-- what is left of a cut
abbrev pub shortened : Fill → ℕ → List ℕ → List ℕ
shortened Old size left = left
shortened New size left = take size left
shortened Ones size left = take size left
shortened Full size left = take size left

-- what is left after a change of a disk that read as `reads` and of which `left` was left
abbrev pub left_after : Fill → Change → List ℕ → List ℕ → List ℕ
left_after kind (Wrote at piece) reads left = filled kind at piece left
left_after kind (Shortened size) reads left = shortened kind size left
left_after kind Synced reads left = reads

-- what is left after these changes
abbrev pub left_by : Fill → List Change → List ℕ → List ℕ → List ℕ
left_by kind [] reads left = left
left_by kind (change ∷ rest) reads left = left_by kind rest (changed change reads) (left_after kind change reads left)
