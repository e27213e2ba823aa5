-- What a machine knows of the steps that it followed.
use Rattle.std.specs.Prelude.{◌≡◌, ℕ, ◌<◌, Bool, true, false, List, [], length, Option, IfSome}
use Rattle.qz_decimal.specs.Numbers.{IsEarnedFraction}
use Rattle.qz_grading.specs.declared.outcome.Behaviour.{Behaviour}
use Rattle.qz_grading.specs.declared.outcome.Behaviour.TheVariants as behaviour
use Rattle.qz_grading.specs.declared.outcome.Outcome.{Outcome}
use Rattle.qz_grading.specs.declared.question.Question.{Question}
use Rattle.qz_grading.specs.declared.response.Step.{Step}
use Rattle.qz_grading.specs.Grading as grading
use Rattle.qz_grading.specs.Steps as steps
use Rattle.qz_grading.specs.Behaviours as behaviours

-- what a machine is seen as: the place is that of the last response, if any
pub record Progress : Type 0 where
  pub behaviour : Behaviour
  pub outcome : Outcome
  pub last : Option ℕ
  pub finished : Bool

-- the behaviours without numbered tries
abbrev pub is_played : Behaviour → Bool
is_played behaviour.Deferred = true
is_played behaviour.DeferredCbm = true
is_played behaviour.Immediate = true
is_played behaviour.ImmediateCbm = true
is_played behaviour.Manual = true
is_played behaviour.Information = true
is_played b = false

-- a machine that has followed these steps of this question knows what comes of them. It keeps the place of the last response and
-- not the response, which has to fit where it can be graded.
pub record IsAfter (m : Progress) (q : Question) (s : List Step) : Type 0 where
  pub plays : is_played m.behaviour ≡ true
  pub outcome : m.outcome ≡ behaviours.outcome m.behaviour q s
  pub finished : m.finished ≡ steps.has_finish s
  pub last : steps.response_at s m.last ≡ steps.last s
  pub inside : IfSome m.last (λ place. place < length s)
  pub fits : grading.gradable q (steps.last s) ≡ true → grading.fits q (steps.last s) m.behaviour ≡ true
  pub earned : IfSome m.outcome.fraction IsEarnedFraction

-- a machine that has followed no step yet, whatever the question
pub record Starts (m : Progress) (b : Behaviour) : Type 0 where
  pub behaviour : m.behaviour ≡ b
  pub after : (q : Question) → IsAfter m q []
