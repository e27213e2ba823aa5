-- What a try of a door leaves: a link that came, the end, or a count that rose.
use Rattle.std.specs.Prelude.{ℕ, ◌≤◌, ⊤, Option, Some, None, Result, Ok, Err}
use Rattle.qz_outside.specs.Causes.{HasRisen}
use Rattle.qz_ready.specs.declared.arrival.Arrival.{Arrival}
use Rattle.qz_ready.specs.declared.arrival.Arrival.TheVariants as arrival

-- the link that came, or the end; or no link, because none had come yet, or because the try failed
abbrev pub arrived : {L E : Type 0} → Result (Arrival L) E → Result (Option L) (Option E)
arrived (Ok (arrival.Link link)) = Ok (Some link)
arrived (Ok arrival.NotYet) = Err None
arrived (Ok arrival.Over) = Ok None
arrived (Err why) = Err (Some why)

-- where no link had come yet
abbrev pub OnNoneYet : {L E : Type 0} → Result (Arrival L) E → Type 0 → Type 0
OnNoneYet (Ok (arrival.Link link)) fact = ⊤
OnNoneYet (Ok arrival.NotYet) fact = fact
OnNoneYet (Ok arrival.Over) fact = ⊤
OnNoneYet (Err why) fact = ⊤

-- a count never falls, and no link has come yet only where it rose
pub record HasDelay {L E : Type 0} (before now : ℕ) (result : Result (Arrival L) E) : Type 0 where
  pub later : before ≤ now
  pub not_yet : OnNoneYet result (HasRisen before now)
