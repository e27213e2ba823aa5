-- What a failure of the outside rests on: a count of faults that rose.
use Rattle.std.specs.Prelude.{ℕ, ◌+◌, ◌-◌, ◌^◌, ◌<◌, ◌≤◌, min, Result, OnErr}

-- one more; a count in a `u64` that stands at its last value stays there
abbrev pub counted : ℕ → ℕ
counted n = min (n + 1) (2 ^ 64 - 1)

-- a count of faults rose in a call; one that stands at the last value of a `u64` counts as risen
abbrev pub HasRisen : ℕ → ℕ → Type 0
HasRisen before now = now < 2 ^ 64 - 1 → before < now

-- a count never falls, and a failure is told only where it rose
pub record HasCause {T E : Type 0} (before now : ℕ) (result : Result T E) : Type 0 where
  pub later : before ≤ now
  pub failed : OnErr result (HasRisen before now)
