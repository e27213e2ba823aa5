-- What a machine of tries knows of the steps that it followed.
use Rattle.std.specs.Prelude.{◌≡◌, ℕ, ◌<◌, ◌≤◌, Bool, true, false, List, [], length, Option, IfSome, is_some, find, option_and_then}
use Rattle.qz_decimal.specs.Numbers.{IsEarnedFraction}
use Rattle.qz_grading.specs.declared.outcome.Behaviour.{Behaviour}
use Rattle.qz_grading.specs.declared.outcome.Behaviour.TheVariants.{Interactive}
use Rattle.qz_grading.specs.declared.question.Question.{Question}
use Rattle.qz_grading.specs.declared.response.Response.{Response}
use Rattle.qz_grading.specs.declared.response.Step.{Step}
use Rattle.qz_grading.specs.Grading.{fits, gradable, grade}
use Rattle.qz_grading.specs.Steps.{has_finish, last, last_of, submitted, step_at, response_at}
use Rattle.qz_grading.specs.Behaviours.{outcome, handed_in, submitted_tries, is_right}
use Rattle.qz_tries.specs.Progress.{Progress, has_tries}

-- the response that was submitted at a place
abbrev pub submitted_at : List Step → Option ℕ → Option Response
submitted_at s place = option_and_then submitted (step_at s place)

-- some try was right, under the adaptive behaviours
abbrev pub has_right_try : Behaviour → Question → List Step → Bool
has_right_try Interactive q s = false
has_right_try b q s = is_some (find (λ r. is_right (grade q r)) (submitted_tries b q s))

-- a machine that has followed these steps of this question knows what comes of them. It keeps places of responses and not the
-- responses, and the last one fits where it can be graded.
pub record IsAfter (m : Progress) (q : Question) (s : List Step) : Type 0 where
  pub plays : has_tries m.behaviour ≡ true
  pub outcome : m.outcome ≡ outcome m.behaviour q s
  pub finished : m.finished ≡ has_finish s
  pub fits : gradable q (last s) ≡ true → fits q (last s) m.behaviour ≡ true
  pub last : response_at s m.last ≡ last s
  pub inside : IfSome m.last (λ place. place < length s)
  pub handed_in : submitted_at s m.handed_in ≡ last_of (handed_in m.behaviour q s)
  pub handed_in_inside : IfSome m.handed_in (λ place. place < length s)
  pub right : m.right ≡ has_right_try m.behaviour q s
  pub earned : IfSome m.outcome.fraction IsEarnedFraction
  pub few : m.outcome.tries ≤ length s

-- a machine that has followed no step yet, whatever the question
pub record Starts (m : Progress) (b : Behaviour) : Type 0 where
  pub behaviour : m.behaviour ≡ b
  pub after : (q : Question) → IsAfter m q []
