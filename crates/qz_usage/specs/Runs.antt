-- One slot that is played: what is bound to it, the steps taken, and what came of them.
use Rattle.std.specs.Prelude.{◌≡◌, ℕ, ◌+◌, ◌≤◌, Bool, false, List, [], ◌∷◌, ◌++◌, length, filter, ℤ, pos}
use Rattle.std.specs.List.{list_any}
use Rattle.qz_decimal.specs.Numbers.{IsMaxMark, IsWithin}
use Rattle.qz_grading.specs.declared.limits.TheConstants.{MOST_ANSWERING, MOST_MARKS}
use Rattle.qz_grading.specs.declared.outcome.Behaviour.{Behaviour}
use Rattle.qz_grading.specs.declared.outcome.Outcome.{Outcome}
use Rattle.qz_grading.specs.declared.question.Question.{Question}
use Rattle.qz_grading.specs.declared.response.Step.{Step}
use Rattle.qz_grading.specs.Questions.{IsQuestion}
use Rattle.qz_grading.specs.Slots.{is_misfit}
use Rattle.qz_grading.specs.Steps.{is_answering, is_finish, is_mark}
use Rattle.qz_terms.specs.declared.plan.Bound.{Bound}
use Rattle.qz_usage.specs.declared.player.Player.{Player}
use Rattle.qz_usage.specs.Players.{played_behaviour, played_outcome, HasPlayed}

-- what a slot run is seen as; it has room for so many more steps
pub record Run : Type 0 where
  pub player : Player
  pub bound : Bound
  pub steps : List Step
  pub room : ℕ

abbrev pub behaviour_of : Run → Behaviour
behaviour_of r = played_behaviour r.player

abbrev pub outcome_of : Run → Outcome
outcome_of r = played_outcome r.player

abbrev pub bound_of : Run → Bound
bound_of r = r.bound

abbrev pub steps_of : Run → List Step
steps_of r = r.steps

-- some response of these steps doesn't fit
abbrev pub has_misfit : Behaviour → Question → List Step → Bool
has_misfit b q s = list_any (is_misfit b q) s

-- the question that is bound to a slot: the steps were read under it, and their responses fit it
pub record IsBound (r : Run) (q : Question) : Type 0 where
  pub question : IsQuestion q
  pub played : HasPlayed r.player q r.steps
  pub fits : has_misfit (behaviour_of r) q r.steps ≡ false

-- a mark that a teacher may give, with the max mark of that moment
abbrev pub IsGiven : ℤ × ℤ → Type 0
IsGiven m = IsWithin (pos 0) m.1 m.0 × IsMaxMark m.1

-- as many steps as a slot takes; a finish is taken once
pub record IsWithinLimits (s : List Step) : Type 0 where
  pub answering : length (filter is_answering s) ≤ MOST_ANSWERING
  pub marks : length (filter is_mark s) ≤ MOST_MARKS
  pub finishes : length (filter is_finish s) ≤ 1

-- one more step at the end, and nothing else is bound
pub record Adds (old new : Run) (x : Step) : Type 0 where
  pub steps : new.steps ≡ old.steps ++ x ∷ []
  pub bound : new.bound ≡ old.bound
  pub behaviour : behaviour_of new ≡ behaviour_of old
  pub room : old.room ≤ new.room + 1
