-- One slot: the state and the mark that it shows, and why a step on it is refused.
use Rattle.std.specs.Prelude.{ℕ, Bool, false, not, ◌&&◌, ◌||◌, nat_le, List, [], ◌∷◌, length, filter, filter_map, Option, Some, unwrap_or, option_map, ℤ, pos, int_lt}
use Rattle.qz_decimal.specs.Numbers.{mark_of, fraction_of, rescale}
use Rattle.qz_grading.specs.declared.limits.TheConstants.{MOST_ANSWERING, MOST_MARKS}
use Rattle.qz_grading.specs.declared.outcome.Behaviour.{Behaviour}
use Rattle.qz_grading.specs.declared.outcome.State.{State}
use Rattle.qz_grading.specs.declared.question.Question.{Question}
use Rattle.qz_grading.specs.declared.refusal.Refusal.{Refusal}
use Rattle.qz_grading.specs.declared.refusal.Refusal.TheVariants as refusal
use Rattle.qz_grading.specs.declared.response.Step.{Step}
use Rattle.qz_grading.specs.declared.response.Step.TheVariants as step
use Rattle.qz_grading.specs.Grading.{fits}
use Rattle.qz_grading.specs.Steps.{last_of, has_finish, given, is_mark, is_answering}
use Rattle.qz_grading.specs.Behaviours.{outcome, marked, when, first_some, barred_showing}

-- the last mark that a teacher gave, with the max mark of that moment
abbrev pub last_given : List Step → Option (ℤ × ℤ)
last_given s = last_of (filter_map given s)

abbrev pub slot_state : Behaviour → Question → List Step → State
slot_state b q s = unwrap_or (option_map (λ (m : ℤ × ℤ). marked (fraction_of m.0 m.1)) (last_given s)) (outcome b q s).state

-- a mark that was given is rescaled to the max mark bound now; else the mark is that of the fraction, if any
abbrev pub slot_mark : Behaviour → Question → ℤ → List Step → Option ℤ
slot_mark b q max s = unwrap_or (option_map (λ (m : ℤ × ℤ). Some (rescale m.0 m.1 max)) (last_given s)) (option_map (λ f. mark_of f max) (outcome b q s).fraction)

-- ---- refusals of a step

abbrev pub is_misfit : Behaviour → Question → Step → Bool
is_misfit b q (step.Save r) = not (fits q r b)
is_misfit b q (step.Submit r) = not (fits q r b)
is_misfit b q x = false

abbrev pub is_out_of_range : ℤ → Step → Bool
is_out_of_range max (step.Mark m bound) = int_lt m (pos 0) || int_lt max m
is_out_of_range max x = false

abbrev pub is_full_for : List Step → Step → Option Refusal
is_full_for s x = first_some (
    when (is_answering x && nat_le MOST_ANSWERING (length (filter is_answering s))) (refusal.TooMany MOST_ANSWERING)
    ∷ when (is_mark x && nat_le MOST_MARKS (length (filter is_mark s))) (refusal.TooMany MOST_MARKS)
    ∷ [])

-- the first cause for which a slot refuses a step
abbrev pub step_cause : Behaviour → Question → ℤ → List Step → Step → Option Refusal
step_cause b q max s x = first_some (
    barred_showing (slot_state b q s) b q s x
    ∷ when (is_misfit b q x) refusal.Misfit
    ∷ when (is_out_of_range max x) (refusal.OutOfRange max)
    ∷ when (is_mark x && not (has_finish s)) refusal.NotFinished
    ∷ is_full_for s x
    ∷ [])
