-- What the calls of a disk do to its bytes, and what a crash may do between two syncs.
use Rattle.std.specs.Prelude.{◌≡◌, ℕ, ◌+◌, ◌-◌, ◌<◌, ◌≤◌, min, max, List, ◌++◌, length, take, drop, Option, Some, None}

-- the bytes with a piece written over them at a place; it may reach past their end
abbrev pub overwritten : ℕ → List ℕ → List ℕ → List ℕ
overwritten at piece bytes = take at bytes ++ piece ++ drop (at + length piece) bytes

-- how far so many bytes at a place reach past the end, where the disk tells its bytes
abbrev pub growth : ℕ → ℕ → Option (List ℕ) → ℕ
growth at count (Some bytes) = at + count - length bytes
growth at count None = 0

-- what a crash leaves of a write of so many bytes: any bytes in their range and past the old end, the same elsewhere
pub record Torn (at count : ℕ) (old new : List ℕ) : Type 0 where
  pub before : take at new ≡ take at old
  pub after : drop (at + count) new ≡ drop (at + count) old
  pub no_shorter : length old ≤ length new
  pub no_longer : length new ≤ max (length old) (at + count)

-- what a crash leaves of a cut: a front, of a length between the old and the new
pub record Cut (size : ℕ) (old new : List ℕ) : Type 0 where
  pub no_shorter : min size (length old) ≤ length new
  pub front : take (length new) old ≡ new

-- what a crash leaves of a call that writes nothing
abbrev pub Same : List ℕ → List ℕ → Type 0
Same old new = new ≡ old

-- Time went on in a call. What a crash may have left until the call began stays as it was; at each moment since, a
-- crash leaves what one may have left when the call began, after a step.
pub record Elapses (step : List ℕ → List ℕ → Type 0) (before now : ℕ) (past since : ℕ → List ℕ → Type 0) : Type 0 where
  pub later : before ≤ now
  pub keeps : (t : ℕ) (c : List ℕ) → t ≤ before → past t c → since t c
  pub adds_nothing : (t : ℕ) (c : List ℕ) → t ≤ before → since t c → past t c
  pub follows : (t : ℕ) (c : List ℕ) → before < t → t ≤ now → since t c → (d : List ℕ) × past before d × step d c

-- A crash at each moment of a run of calls, from its begin to its end, leaves what has P.
pub record LeavesOnly (P : List ℕ → Type 0) (before now : ℕ) (past since : ℕ → List ℕ → Type 0) : Type 0 where
  pub later : before ≤ now
  pub each : (t : ℕ) (c : List ℕ) → before ≤ t → t ≤ now → since t c → P c
  -- for a run that began earlier
  pub adds_nothing : (t : ℕ) (c : List ℕ) → t ≤ before → since t c → past t c

-- the outcomes of a crash are these bytes alone
pub record IsDurable (bytes : List ℕ) (outcomes : List ℕ → Type 0) : Type 0 where
  pub only : (c : List ℕ) → outcomes c → c ≡ bytes

-- the room made for coming calls: how many writes, cuts and syncs, and how many bytes past the end in all
pub record Room : Type 0 where
  pub calls : ℕ
  pub bytes : ℕ

-- a call took at most so many calls and bytes of the room
pub record Spends (calls bytes : ℕ) (before now : Room) : Type 0 where
  pub calls_left : before.calls ≤ now.calls + calls
  pub bytes_left : before.bytes ≤ now.bytes + bytes

-- there is room for so many calls, which grow the disk by so many bytes in all
pub record HasRoom (calls bytes : ℕ) (room : Room) : Type 0 where
  pub calls_fit : calls ≤ room.calls
  pub bytes_fit : bytes ≤ room.bytes
