-- What is kept beside the steps of a slot is what the steps tell.
use Rattle.std.specs.Prelude.{◌≡◌, length, filter, IfSome}
use Rattle.qz_decimal.specs.Numbers.{IsEarnedFraction, IsMaxMark}
use Rattle.qz_grading.specs.Slots.{last_given}
use Rattle.qz_grading.specs.Steps.{has_finish, is_answering, is_mark}
use Rattle.qz_usage.specs.declared.slot_run.SlotRun.TheInside.{Inside}
use Rattle.qz_usage.specs.Players.{played_outcome}
use Rattle.qz_usage.specs.Runs.{IsGiven, IsWithinLimits}

pub record IsTallied (r : Inside) : Type 0 where
  pub answering : r.answering ≡ length (filter is_answering r.steps.items)
  pub marks : r.marks ≡ length (filter is_mark r.steps.items)
  pub finished : r.finished ≡ has_finish r.steps.items
  pub given : r.given ≡ last_given r.steps.items
  pub in_range : IfSome r.given IsGiven
  pub limits : IsWithinLimits r.steps.items
  pub max : IsMaxMark r.bound.max
  pub earned : IfSome (played_outcome r.player).fraction IsEarnedFraction
