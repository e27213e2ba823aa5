-- What a try of a link leaves: bytes that were moved, or a count that rose.
use Rattle.std.specs.Prelude.{ℕ, ◌≤◌, ⊤, Bool, true, false, Option, Some, None, Result, Ok, Err}
use Rattle.qz_outside.specs.Causes.{HasRisen}
use Rattle.qz_ready.specs.declared.look.Look.{Look}
use Rattle.qz_ready.specs.declared.look.Look.TheVariants as look

-- how many bytes a try moved; or none, because there was nothing yet, or because it failed
abbrev pub moved : {E : Type 0} → Result Look E → Result ℕ (Option E)
moved (Ok (look.Moved count)) = Ok count
moved (Ok look.NotYet) = Err None
moved (Err why) = Err (Some why)

abbrev pub is_not_yet : {E : Type 0} → Result Look E → Bool
is_not_yet (Ok (look.Moved count)) = false
is_not_yet (Ok look.NotYet) = true
is_not_yet (Err why) = false

-- where a try found nothing yet
abbrev pub OnNotYet : {E : Type 0} → Result Look E → Type 0 → Type 0
OnNotYet (Ok (look.Moved count)) fact = ⊤
OnNotYet (Ok look.NotYet) fact = fact
OnNotYet (Err why) fact = ⊤

-- a count never falls, and a try finds nothing yet only where it rose
pub record HasPause {E : Type 0} (before now : ℕ) (result : Result Look E) : Type 0 where
  pub later : before ≤ now
  pub not_yet : OnNotYet result (HasRisen before now)
