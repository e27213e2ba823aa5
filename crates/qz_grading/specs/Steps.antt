-- Reading a list of steps.
use Rattle.std.specs.Prelude.{◌≡◌, ℕ, Bool, true, false, if◌then◌else◌, List, [], ◌∷◌, Option, Some, None, IfSome, unwrap_or, option_and_then, slice_get, filter_map, ℤ}
use Rattle.std.specs.List.{list_any, last_or}
use Rattle.qz_grading.specs.declared.outcome.Behaviour.{Behaviour}
use Rattle.qz_grading.specs.declared.question.Question.{Question}
use Rattle.qz_grading.specs.declared.response.Response.{Response}
use Rattle.qz_grading.specs.declared.response.Step.{Step}
use Rattle.qz_grading.specs.declared.response.Step.TheVariants as step
use Rattle.qz_grading.specs.Grading.{blank, fits}

abbrev pub last_of : {A : Type 0} → List A → Option A
last_of xs = last_or None xs

abbrev pub is_finish : Step → Bool
is_finish step.Finish = true
is_finish x = false

abbrev pub has_finish : List Step → Bool
has_finish s = list_any is_finish s

-- the steps before the first Finish
abbrev pub before : List Step → List Step
before [] = []
before (x ∷ s) = if is_finish x then [] else x ∷ before s

-- the response of a Save or a Submit
abbrev pub response_of : Step → Option Response
response_of (step.Save r) = Some r
response_of (step.Submit r) = Some r
response_of x = None

-- the response of the last Save or Submit before a Finish, or the blank one
abbrev pub last : List Step → Response
last s = unwrap_or (last_of (filter_map response_of (before s))) blank

-- the response of a step, if it has one, fits the question
abbrev pub StepFits : Behaviour → Question → Step → Type 0
StepFits b q x = IfSome (response_of x) (λ r. fits q r b ≡ true)

-- the response of a Submit
abbrev pub submitted : Step → Option Response
submitted (step.Submit r) = Some r
submitted x = None

-- the mark and the max mark of a Mark
abbrev pub given : Step → Option (ℤ × ℤ)
given (step.Mark m max) = Some (m, max)
given x = None

-- ---- steps by their places, from 0

-- the step at a place, if any
abbrev pub step_at : List Step → Option ℕ → Option Step
step_at s place = option_and_then (slice_get s) place

-- the response at a place, or the blank one where there is none
abbrev pub response_at : List Step → Option ℕ → Response
response_at s place = unwrap_or (option_and_then response_of (step_at s place)) blank

-- ---- counts that are limited

abbrev pub is_save : Step → Bool
is_save (step.Save r) = true
is_save x = false

abbrev pub is_mark : Step → Bool
is_mark (step.Mark m max) = true
is_mark x = false

-- a Save, a Submit or an Again
abbrev pub is_answering : Step → Bool
is_answering (step.Save r) = true
is_answering (step.Submit r) = true
is_answering step.Again = true
is_answering x = false
