-- What objects in memory do, call by call.
use Rattle.std.specs.Prelude.{ℕ, ◌==◌, Bool, true, false, if◌then◌else◌, List, [], ◌∷◌, drop}
use Rattle.qz_outside.specs.Causes.{counted}
use Rattle.qz_ready.specs.declared.pace.Turn.{Turn}
use Rattle.qz_ready.specs.declared.pace.Turn.TheVariants as turn

-- the turns of the calls to come, and how many calls have waited
pub record Pacing : Type 0 where
  pub turns : List Turn
  pub waits : ℕ

-- a call that is to move nothing waits
abbrev pub is_wait : Turn → Bool
is_wait (turn.Moves most) = most == 0
is_wait turn.Waits = true

-- behind the last turn no call waits
abbrev pub waits_next : List Turn → Bool
waits_next [] = false
waits_next (t ∷ ts) = is_wait t

-- one call more
abbrev pub paced : Pacing → Pacing
paced p = record { turns = drop 1 p.turns; waits = if waits_next p.turns then counted p.waits else p.waits }

-- a link at a pace: its key, the link, and the paces of its reads and of its writes
pub record PacedLine (L : Type 0) : Type 0 where
  pub key : ℕ
  pub link : L
  pub reads : Pacing
  pub writes : Pacing

-- a door at a pace
pub record PacedEntrance (R : Type 0) : Type 0 where
  pub key : ℕ
  pub door : R
  pub arrivals : Pacing
