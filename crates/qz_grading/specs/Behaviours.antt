-- What comes of a list of steps under each behaviour, as closed forms over the list.
use Rattle.std.specs.Prelude.{ℕ, ◌+◌, ◌-◌, Bool, true, false, not, ◌&&◌, ◌||◌, ◌==◌, nat_lt, if◌then◌else◌, List, [], ◌∷◌, ◌++◌, length, map, filter, fold, find, filter_map, Option, Some, None, is_some, unwrap_or, option_map, ℤ, pos, neg_ℤ, ◌-ℤ◌, ◌*ℤ◌}
use Rattle.std.specs.List.{enumerate_from}
use Rattle.std.specs.Int.{int_max}
pub use Rattle.qz_decimal.specs.Numbers.{is_wrong, is_right}
use Rattle.qz_grading.specs.declared.outcome.Behaviour.{Behaviour}
use Rattle.qz_grading.specs.declared.outcome.Behaviour.TheVariants as behaviour
use Rattle.qz_grading.specs.declared.outcome.Moved.{Moved}
use Rattle.qz_grading.specs.declared.outcome.Moved.TheVariants.{Kept, Same}
use Rattle.qz_grading.specs.declared.outcome.Outcome.{Outcome}
use Rattle.qz_grading.specs.declared.outcome.State.{State}
use Rattle.qz_grading.specs.declared.outcome.State.TheVariants as state
use Rattle.qz_grading.specs.declared.question.Kind.{Kind}
use Rattle.qz_grading.specs.declared.question.Kind.TheVariants as kind
use Rattle.qz_grading.specs.declared.question.Question.{Question}
use Rattle.qz_grading.specs.declared.refusal.Refusal.{Refusal}
use Rattle.qz_grading.specs.declared.refusal.Refusal.TheVariants as refusal
use Rattle.qz_grading.specs.declared.response.Response.{Response}
use Rattle.qz_grading.specs.declared.response.Step.{Step}
use Rattle.qz_grading.specs.declared.response.Step.TheVariants as step
use Rattle.qz_grading.specs.Grading.{same, complete, gradable, grade, asks_certainty}
use Rattle.qz_grading.specs.Steps.{last_of, has_finish, before, last, submitted}

-- a description is always shown, an essay always marked by a teacher
abbrev pub behaviour_for : Kind → Behaviour → Behaviour
behaviour_for kind.Description b = behaviour.Information
behaviour_for kind.Essay b = behaviour.Manual
behaviour_for k b = b

-- ---- fractions and their states

abbrev pub graded : ℤ → State
graded f = if is_wrong f then state.GradedWrong else (if is_right f then state.GradedRight else state.GradedPartial)

abbrev pub marked : ℤ → State
marked f = if is_wrong f then state.MangrWrong else (if is_right f then state.MangrRight else state.MangrPartial)

-- what a wrong answer costs at each certainty, where one that isn't given counts as 1
abbrev pub lost : ℕ → ℤ
lost certainty = if certainty == 3 then neg_ℤ (pos 60000000) else (if certainty == 2 then neg_ℤ (pos 20000000) else pos 0)

abbrev pub times : ℕ → ℤ
times certainty = if certainty == 0 then pos 1 else pos certainty

-- a fraction as certainty changes it
abbrev pub by_certainty : Behaviour → ℕ → ℤ → ℤ
by_certainty b certainty g = if not (asks_certainty b) then g else (if is_wrong g then lost certainty else g *ℤ times certainty)

-- ---- complete Submits

-- under certainty a response is complete only where its certainty is given too
abbrev pub complete_under : Behaviour → Question → Response → Bool
complete_under b q r = complete q r && (not (asks_certainty b) || nat_lt 0 r.certainty)

-- the complete Submits before a Finish, in order
abbrev pub handed_in : Behaviour → Question → List Step → List Response
handed_in b q s = filter (complete_under b q) (filter_map submitted (before s))

-- the last step is a Submit that passes this test
abbrev pub ends_in_submit : (Response → Bool) → List Step → Bool
ends_in_submit p s = unwrap_or (option_map p (unwrap_or (option_map submitted (last_of s)) None)) false

abbrev pub ends_complete : Behaviour → Question → List Step → Bool
ends_complete b q s = ends_in_submit (complete_under b q) s

abbrev pub ends_incomplete : Behaviour → Question → List Step → Bool
ends_incomplete b q s = ends_in_submit (λ r. not (complete_under b q r)) s

-- ---- where a slot stands: a state and a fraction, if any

abbrev pub Standing : Type 0
Standing = State × Option ℤ

-- a response that is graded, with what certainty makes of its fraction
abbrev pub by_grade : Behaviour → Question → Response → Standing
by_grade b q r = (graded (grade q r), Some (by_certainty b r.certainty (grade q r)))

-- what is shown before the end where a Submit counts for more than a Save
abbrev pub unfinished : Behaviour → Question → List Step → Standing
unfinished b q s = (if ends_incomplete b q s then state.Invalid else state.Todo, None)

abbrev pub saved : Behaviour → Question → List Step → Standing
saved b q s = (if complete_under b q (last s) then state.Complete else state.Todo, None)

-- graded at the end by the last response
abbrev pub at_finish : Behaviour → Question → List Step → Standing
at_finish b q s = if gradable q (last s) then by_grade b q (last s) else (state.GaveUp, None)

abbrev pub deferred : Behaviour → Question → List Step → Standing
deferred b q s = if has_finish s then at_finish b q s else saved b q s

abbrev pub manual : Behaviour → Question → List Step → Standing
manual b q s = if has_finish s then (if complete_under b q (last s) then state.NeedsGrading else state.GaveUp, None) else saved b q s

abbrev pub information : List Step → Standing
information s = (if has_finish s then state.Finished else state.Todo, None)

-- the first complete Submit ends the slot
abbrev pub first_handed_in : Behaviour → Question → List Step → Option Response
first_handed_in b q s = find (λ r. true) (handed_in b q s)

abbrev pub immediate : Behaviour → Question → List Step → Standing
immediate b q s = unwrap_or (option_map (by_grade b q) (first_handed_in b q s)) (if has_finish s then at_finish b q s else unfinished b q s)

-- ---- interactive

abbrev pub tries_allowed : Question → ℕ
tries_allowed q = length q.hints + 1

-- the least try, with its number, that is right or the last allowed
abbrev pub ending_try : Behaviour → Question → List Step → Option (ℕ × Response)
ending_try b q s = find (λ (t : ℕ × Response). is_right (grade q t.1) || (t.0 == tries_allowed q)) (enumerate_from 1 (handed_in b q s))

-- what is left of a fraction after so many penalties, at least 0
abbrev pub penalised : Question → ℕ → Response → ℤ
penalised q penalties r = int_max (pos 0) (grade q r -ℤ pos penalties *ℤ q.penalty)

abbrev pub tried : Question → ℕ × Response → Standing
tried q t = (graded (grade q t.1), Some (penalised q (t.0 - 1) t.1))

abbrev pub interactive_finish : Behaviour → Question → List Step → Standing
interactive_finish b q s = if gradable q (last s) then (graded (grade q (last s)), Some (penalised q (length (handed_in b q s)) (last s))) else (state.GaveUp, None)

abbrev pub interactive : Behaviour → Question → List Step → Standing
interactive b q s = unwrap_or (option_map (tried q) (ending_try b q s)) (if has_finish s then interactive_finish b q s else unfinished b q s)

-- ---- adaptive

-- those that differ from the one before
abbrev pub changed_after : Response → List Response → List Response
changed_after r [] = []
changed_after r (t ∷ ts) = if same r t then changed_after t ts else t ∷ changed_after t ts

abbrev pub changed : List Response → List Response
changed [] = []
changed (r ∷ rs) = r ∷ changed_after r rs

-- a Finish makes a further try of the last response, where it is gradable and no try yet or not the last one's
abbrev pub further : Question → List Response → Response → List Response
further q tries r = if gradable q r && not (unwrap_or (option_map (λ t. same t r) (last_of tries)) false) then r ∷ [] else []

abbrev pub submitted_tries : Behaviour → Question → List Step → List Response
submitted_tries b q s = changed (handed_in b q s)

abbrev pub adaptive_tries : Behaviour → Question → List Step → List Response
adaptive_tries b q s = let tries = submitted_tries b q s in if has_finish s then tries ++ further q tries (last s) else tries

abbrev pub penalty_under : Behaviour → Question → ℤ
penalty_under behaviour.AdaptiveNoPenalty q = pos 0
penalty_under b q = q.penalty

-- the greatest of 0 and what each try counts
abbrev pub best_try : Behaviour → Question → List Response → ℤ
best_try b q tries = fold int_max (pos 0) (map (λ (t : ℕ × Response). grade q t.1 -ℤ pos t.0 *ℤ penalty_under b q) (enumerate_from 0 tries))

abbrev pub without_last : List Step → List Step
without_last [] = []
without_last (x ∷ []) = []
without_last (x ∷ y ∷ s) = x ∷ without_last (y ∷ s)

-- the last step is a try
abbrev pub ends_in_try : Behaviour → Question → List Step → Bool
ends_in_try b q s = ends_complete b q s && nat_lt (length (submitted_tries b q (without_last s))) (length (submitted_tries b q s))

abbrev pub adaptive_state : Behaviour → Question → List Step → State
adaptive_state b q s =
    if has_finish s then (if gradable q (last s) then graded (grade q (last s)) else state.GaveUp)
    else (if ends_incomplete b q s then state.Invalid else (if ends_in_try b q s && is_some (find (λ r. is_right (grade q r)) (submitted_tries b q s)) then state.Complete else state.Todo))

abbrev pub adaptive : Behaviour → Question → List Step → Standing
adaptive b q s = (adaptive_state b q s, if has_finish s || nat_lt 0 (length (adaptive_tries b q s)) then Some (best_try b q (adaptive_tries b q s)) else None)

-- ---- the outcome

abbrev pub standing : Behaviour → Question → List Step → Standing
standing behaviour.Deferred q s = deferred behaviour.Deferred q s
standing behaviour.DeferredCbm q s = deferred behaviour.DeferredCbm q s
standing behaviour.Immediate q s = immediate behaviour.Immediate q s
standing behaviour.ImmediateCbm q s = immediate behaviour.ImmediateCbm q s
standing behaviour.Interactive q s = interactive behaviour.Interactive q s
standing behaviour.Adaptive q s = adaptive behaviour.Adaptive q s
standing behaviour.AdaptiveNoPenalty q s = adaptive behaviour.AdaptiveNoPenalty q s
standing behaviour.Manual q s = manual behaviour.Manual q s
standing behaviour.Information q s = information s

abbrev pub ends_by_try : Behaviour → Question → List Step → Bool
ends_by_try behaviour.Immediate q s = is_some (first_handed_in behaviour.Immediate q s)
ends_by_try behaviour.ImmediateCbm q s = is_some (first_handed_in behaviour.ImmediateCbm q s)
ends_by_try behaviour.Interactive q s = is_some (ending_try behaviour.Interactive q s)
ends_by_try b q s = false

abbrev pub has_ended : Behaviour → Question → List Step → Bool
has_ended b q s = has_finish s || ends_by_try b q s

abbrev pub needs_again : Behaviour → Question → List Step → Bool
needs_again behaviour.Interactive q s = ends_complete behaviour.Interactive q (before s) && not (has_ended behaviour.Interactive q s)
needs_again b q s = false

abbrev pub tries : Behaviour → Question → List Step → ℕ
tries behaviour.Interactive q s = length (handed_in behaviour.Interactive q s)
tries behaviour.Adaptive q s = length (adaptive_tries behaviour.Adaptive q s)
tries behaviour.AdaptiveNoPenalty q s = length (adaptive_tries behaviour.AdaptiveNoPenalty q s)
tries b q s = 0

abbrev pub outcome : Behaviour → Question → List Step → Outcome
outcome b q s = record { state = (standing b q s).0; fraction = (standing b q s).1; ended = has_ended b q s; needs_again = needs_again b q s; tries = tries b q s }

-- ---- whether a step is taken

abbrev pub takes : Behaviour → Step → Bool
takes b step.Finish = true
takes behaviour.Information x = false
takes b (step.Save r) = true
takes b (step.Mark m max) = true
takes behaviour.Interactive x = true
takes behaviour.Immediate (step.Submit r) = true
takes behaviour.ImmediateCbm (step.Submit r) = true
takes behaviour.Adaptive (step.Submit r) = true
takes behaviour.AdaptiveNoPenalty (step.Submit r) = true
takes b x = false

abbrev pub is_again : Step → Bool
is_again step.Again = true
is_again x = false

-- a Save or a Submit
abbrev pub is_response : Step → Bool
is_response (step.Save r) = true
is_response (step.Submit r) = true
is_response x = false

-- the first refusal of a list of conditions
abbrev pub when : Bool → Refusal → Option Refusal
when condition r = if condition then Some r else None

abbrev pub first_some : {A : Type 0} → List (Option A) → Option A
first_some [] = None
first_some (None ∷ os) = first_some os
first_some (Some x ∷ os) = Some x

-- the behaviour doesn't take the step, or Again doesn't follow a complete Submit
abbrev pub is_wrong_action : Behaviour → Question → List Step → Step → Bool
is_wrong_action b q s x = not (takes b x) || (is_again x && not (ends_complete b q s))

-- a step of a student after the end; Finish too after a Finish
abbrev pub comes_late : Behaviour → Question → List Step → Step → Bool
comes_late b q s step.Finish = has_finish s
comes_late b q s (step.Mark m max) = false
comes_late b q s x = has_ended b q s

-- the refusals of a behaviour, in order; the second carries the state that is shown
abbrev pub barred_showing : State → Behaviour → Question → List Step → Step → Option Refusal
barred_showing shown b q s x = first_some (
    when (is_wrong_action b q s x) (refusal.WrongAction b)
    ∷ when (comes_late b q s x) (refusal.SlotEnded shown)
    ∷ when (is_response x && needs_again b q s) refusal.NeedsTryAgain
    ∷ [])

abbrev pub barred : Behaviour → Question → List Step → Step → Option Refusal
barred b q s x = barred_showing (outcome b q s).state b q s x

-- a Save of the last response, or a Submit again of the Submit before, adds no step
abbrev pub moved : List Step → Step → Moved
moved s (step.Save r) = if same r (last s) then Same else Kept
moved s (step.Submit r) = if ends_in_submit (same r) s then Same else Kept
moved s x = Kept
