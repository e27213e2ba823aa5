-- How a disk in memory logs what it went through: the calls, and the bytes of all pieces one behind the other.
use Rattle.std.specs.Prelude.{◌≡◌, ℕ, ◌+◌, ◌*◌, ◌≤◌, List, [], ◌∷◌, length, take, drop}
use Rattle.qz_disks.specs.declared.memory_disk.Done.{Done}
use Rattle.qz_disks.specs.declared.memory_disk.Done.TheVariants as done
use Rattle.qz_disks.specs.Changes.{Change, Wrote, Shortened, Synced, content}

-- the changes that a log tells
abbrev pub told : List ℕ → List Done → List Change
told written [] = []
told written (done.Wrote at count ∷ rest) = Wrote at (take count written) ∷ told (drop count written) rest
told written (done.Cut size ∷ rest) = Shortened size ∷ told written rest
told written (done.Synced ∷ rest) = Synced ∷ told written rest

-- how many bytes the pieces of a log have
abbrev pub total : List Done → ℕ
total [] = 0
total (done.Wrote at count ∷ rest) = count + total rest
total (done.Cut size ∷ rest) = total rest
total (done.Synced ∷ rest) = total rest

-- the bytes are those that the log tells, and the log has no bytes but those of its pieces
pub record IsLogged (bytes written : List ℕ) (log : List Done) : Type 0 where
  pub reads : bytes ≡ content (told written log)
  pub whole : total log ≡ length written

-- the vectors have capacity for the room made: for so many calls, each of which writes at most all bytes
pub record HasCapacity (calls bytes size size_capacity logged logged_capacity entries entries_capacity : ℕ) : Type 0 where
  pub for_bytes : size + bytes ≤ size_capacity
  pub for_pieces : logged + calls * (size + bytes) ≤ logged_capacity
  pub for_calls : entries + calls ≤ entries_capacity
