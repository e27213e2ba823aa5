-- What the parts of a machine promise each other.
use Rattle.std.specs.Prelude.{◌≡◌, ℕ, ◌<◌, Bool, true, false, List, length, Option, None, IfSome}
use Rattle.qz_decimal.specs.Numbers.{IsEarnedFraction}
use Rattle.qz_grading.specs.declared.outcome.Behaviour.{Behaviour}
use Rattle.qz_grading.specs.declared.outcome.Behaviour.TheVariants as behaviour
use Rattle.qz_grading.specs.declared.outcome.Outcome.{Outcome}
use Rattle.qz_grading.specs.declared.outcome.State.{State}
use Rattle.qz_grading.specs.declared.question.Question.{Question}
use Rattle.qz_grading.specs.declared.response.Step.{Step}
use Rattle.qz_grading.specs.Questions.{IsQuestion}
use Rattle.qz_grading.specs.Steps.{last, response_at, StepFits}
use Rattle.qz_grading.specs.Behaviours.{Standing, outcome}
use Rattle.qz_behave.specs.Machines.{Progress, IsAfter}

-- ---- outcomes without numbered tries

-- of a slot that goes on
abbrev pub going_on : State → Outcome
going_on state = record { state = state; fraction = None; ended = false; needs_again = false; tries = 0 }

-- of a slot that ended
abbrev pub ended_with : Standing → Outcome
ended_with standing = record { state = standing.0; fraction = standing.1; ended = true; needs_again = false; tries = 0 }

-- the last response is graded at the Finish alone
abbrev pub is_deferred : Behaviour → Bool
is_deferred behaviour.Deferred = true
is_deferred behaviour.DeferredCbm = true
is_deferred b = false

-- the first complete Submit ends the slot
abbrev pub grades_first : Behaviour → Bool
grades_first behaviour.Immediate = true
grades_first behaviour.ImmediateCbm = true
grades_first b = false

-- ---- one more step

-- the place of the last response among these steps
pub record IsLastPlace (place : Option ℕ) (s : List Step) : Type 0 where
  pub at : response_at s place ≡ last s
  pub inside : IfSome place (λ i. i < length s)

-- a step that follows these
pub record IsNext (m : Progress) (q : Question) (s : List Step) (x : Step) : Type 0 where
  pub question : IsQuestion q
  pub after : IsAfter m q s
  pub fits : StepFits m.behaviour q x

-- what comes of these steps
pub record IsOutcome (b : Behaviour) (q : Question) (s : List Step) (o : Outcome) : Type 0 where
  pub value : o ≡ outcome b q s
  pub earned : IfSome o.fraction IsEarnedFraction
