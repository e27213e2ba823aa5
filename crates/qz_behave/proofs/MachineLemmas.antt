-- What a machine knows after one more step.
use Rattle.std.proofs.Common.{◌≡◌, ℕ, ◌≤◌, Bool, true, false, ◌||◌, ◌&&◌, List, [], ◌∷◌, ◌++◌, length, Option, Some, None, IfSome, refl, ap, sym, ◌∙◌, ◌⊎◌, inl, inr, ℤ, arith}
use Rattle.std.proofs.lemmas.List.{length-append}
use Rattle.std.proofs.lemmas.Bool.Decides.{nat_tests}
use Rattle.std.specs.Prelude.{if◌then◌else◌, nat_le, ◌==◌, is_some, is_none}
use Rattle.qz_decimal.specs.Numbers.{IsEarnedFraction}
use Rattle.qz_grading.specs.declared.outcome.Behaviour.{Behaviour}
use Rattle.qz_grading.specs.declared.outcome.Behaviour.TheVariants as behaviour
use Rattle.qz_grading.specs.declared.outcome.Outcome.{Outcome}
use Rattle.qz_grading.specs.declared.outcome.State.{State}
use Rattle.qz_grading.specs.declared.outcome.State.TheVariants as state
use Rattle.qz_grading.specs.declared.question.Question.{Question}
use Rattle.qz_grading.specs.declared.response.Response.{Response}
use Rattle.qz_grading.specs.declared.response.Step.{Step}
use Rattle.qz_grading.specs.declared.response.Step.TheVariants as step
use Rattle.qz_grading.specs.Grading.{asks_certainty, certainty_fits, answer_fits, fits, gradable}
use Rattle.qz_grading.specs.Steps.{is_finish, has_finish, last, response_of, submitted, StepFits}
use Rattle.qz_grading.specs.Behaviours.{Standing, complete_under, first_handed_in, ends_by_try, has_ended, by_grade, at_finish, outcome}
use Rattle.qz_grading.proofs.StepLemmas.{or-true, slice_get-push, inside-more, response_at-kept, has_finish-more, last-finished, last-closed, last-answered, last-passed}
use Rattle.qz_behave.specs.Machines.{Progress, IsAfter}
use Rattle.qz_behave.specs.Following.{is_deferred, grades_first, going_on, ended_with, IsLastPlace, IsOutcome}
use Rattle.qz_behave.proofs.OneMore.{or-left, or-right, outcome-ended, deferred-answered, deferred-passed, deferred-finished, manual-answered, manual-passed, manual-finished, immediate-complete, immediate-incomplete, immediate-passed, immediate-finished}

-- ---- certainty

and-right : (a b : Bool) → (a && b) ≡ true → b ≡ true
and-right true b both = both
and-right false b both = absurd cc

certainty-within : (asks : Bool) (c : ℕ) → (if asks then nat_le c 3 else c == 0) ≡ true → c ≤ 3
certainty-within true c within = grind (arith, nat_tests)
certainty-within false c within = grind (arith, nat_tests)

pub certainty-few : (b : Behaviour) (q : Question) (r : Response) → fits q r b ≡ true → r.certainty ≤ 3
certainty-few b q r fit = certainty-within (asks_certainty b) r.certainty (and-right (answer_fits q.kind r.answer) (certainty_fits b r.certainty) fit)

-- ---- places

abbrev pub not_answered : Step → Bool
not_answered x = is_none (response_of x)

-- the last response of a list is the same with one more step after a Finish, and with one that has no response
last-split : (s : List Step) (x : Step) (f : Bool) → has_finish s ≡ f → (f || not_answered x) ≡ true → last (s ++ x ∷ []) ≡ last s
last-split s x true closed kept = last-closed s x closed
last-split s step.Finish false none kept = last-finished s
last-split s step.Again false none kept = last-passed s step.Again none refl refl
last-split s (step.Mark m max) false none kept = last-passed s (step.Mark m max) none refl refl
last-split s (step.Save r) false none kept = absurd cc
last-split s (step.Submit r) false none kept = absurd cc

pub last-kept : (s : List Step) (x : Step) → (has_finish s || not_answered x) ≡ true → last (s ++ x ∷ []) ≡ last s
last-kept s x kept = last-split s x (has_finish s) refl kept

-- a step with a response is no Finish
answers-other : (x : Step) (r : Response) → response_of x ≡ Some r → is_finish x ≡ false
answers-other step.Finish r is = absurd cc
answers-other (step.Save t) r is = refl
answers-other (step.Submit t) r is = refl
answers-other step.Again r is = refl
answers-other (step.Mark m max) r is = refl

pub place-kept : (place : Option ℕ) (s : List Step) (x : Step) → IsLastPlace place s → (has_finish s || not_answered x) ≡ true → IsLastPlace place (s ++ x ∷ [])
place-kept place s x known kept = record {
  at = response_at-kept place s x known.inside ∙ known.at ∙ sym (last-kept s x kept);
  inside = inside-more place s x known.inside;
}

pub place-answered : (s : List Step) (x : Step) (r : Response) → has_finish s ≡ false → response_of x ≡ Some r → IsLastPlace (Some (length s)) (s ++ x ∷ [])
place-answered s x r none is = record {
  at = rw (slice_get-push s x, is) (sym (last-answered s x none (answers-other x r is) r is));
  inside = omega (arith, length-append s (x ∷ []));
}

-- ---- one more step of a slot that goes on

ends_by_try-first : (b : Behaviour) (q : Question) (s : List Step) → grades_first b ≡ true → ends_by_try b q s ≡ is_some (first_handed_in b q s)
ends_by_try-first behaviour.Immediate q s first = refl
ends_by_try-first behaviour.ImmediateCbm q s first = refl
ends_by_try-first b q s first = absurd cc

shown-open : (b : Behaviour) (q : Question) (s : List Step) (o : Outcome) (shown : State) → o ≡ going_on shown → outcome b q s ≡ going_on shown → IsOutcome b q s o
shown-open b q s o shown is value = record { value = is ∙ sym value; earned = rw is tt }

shown-ended : (b : Behaviour) (q : Question) (s : List Step) (o : Outcome) (p : Standing) → o ≡ ended_with p → IfSome o.fraction IsEarnedFraction → outcome b q s ≡ ended_with p → IsOutcome b q s o
shown-ended b q s o p is earned value = record { value = is ∙ sym value; earned = earned }

-- ---- what a pattern tells of a step

pub answers : (x : Step) (r : Response) → (x ≡ step.Save r) ⊎ (x ≡ step.Submit r) → (response_of x ≡ Some r) × (is_finish x ≡ false)
answers x r (inl is) = (rw is refl, rw is refl)
answers x r (inr is) = (rw is refl, rw is refl)

pub passes : (x : Step) → (x ≡ step.Again) ⊎ ((mark : ℤ) × (max : ℤ) × (x ≡ step.Mark mark max)) → (response_of x ≡ None) × (is_finish x ≡ false)
passes x (inl is) = (rw is refl, rw is refl)
passes x (inr w) = (rw w.2 refl, rw w.2 refl)

pub hands_in_nothing : (x : Step) → ((r : Response) × (x ≡ step.Save r)) ⊎ ((x ≡ step.Again) ⊎ ((mark : ℤ) × (max : ℤ) × (x ≡ step.Mark mark max)))
    → (submitted x ≡ None) × (is_finish x ≡ false)
hands_in_nothing x (inl w) = (rw w.1 refl, rw w.1 refl)
hands_in_nothing x (inr (inl is)) = (rw is refl, rw is refl)
hands_in_nothing x (inr (inr w)) = (rw w.2 refl, rw w.2 refl)

-- ---- one more step, behaviour by behaviour

-- after the end nothing comes of it
pub ended-stays : (m : Progress) (q : Question) (s : List Step) (x : Step) (o : Outcome) → IsAfter m q s → m.outcome.ended ≡ true → o ≡ m.outcome
    → IsOutcome m.behaviour q (s ++ x ∷ []) o
ended-stays m q s x o after ended is =
    let stays : outcome m.behaviour q (s ++ x ∷ []) ≡ outcome m.behaviour q s = outcome-ended m.behaviour q s x after.plays (sym (ap (λ (was : Outcome). was.ended) after.outcome) ∙ ended) in
    record { value = is ∙ after.outcome ∙ sym stays; earned = rw is after.earned }

module _ (m : Progress) (q : Question) (s : List Step) (x : Step) (after : IsAfter m q s) (unended : m.outcome.ended ≡ false) (o : Outcome) where
  goes_on : has_ended m.behaviour q s ≡ false
  goes_on = sym (ap (λ (was : Outcome). was.ended) after.outcome) ∙ unended

  unfinished : has_finish s ≡ false
  unfinished = or-left (has_finish s) (ends_by_try m.behaviour q s) goes_on

  unanswered : grades_first m.behaviour ≡ true → is_some (first_handed_in m.behaviour q s) ≡ false
  unanswered first = sym (ends_by_try-first m.behaviour q s first) ∙ or-right (has_finish s) (ends_by_try m.behaviour q s) goes_on

  shown-still : o ≡ m.outcome → outcome m.behaviour q (s ++ x ∷ []) ≡ outcome m.behaviour q s → IsOutcome m.behaviour q (s ++ x ∷ []) o
  shown-still is same = record { value = is ∙ after.outcome ∙ sym same; earned = rw is after.earned }

  pub immediate-ends : grades_first m.behaviour ≡ true → (b : Behaviour) (r : Response) → b ≡ m.behaviour → x ≡ step.Submit r → complete_under b q r ≡ true
      → o ≡ ended_with (by_grade b q r) → IfSome o.fraction IsEarnedFraction → IsOutcome m.behaviour q (s ++ x ∷ []) o
  immediate-ends first b r same is complete value earned =
      rw is (shown-ended m.behaviour q (s ++ step.Submit r ∷ []) o (by_grade m.behaviour q r) (rw same at value) earned
      (immediate-complete m.behaviour q s first unfinished (unanswered first) r (rw same at complete)))

  pub immediate-invalid : grades_first m.behaviour ≡ true → (b : Behaviour) (r : Response) → b ≡ m.behaviour → x ≡ step.Submit r → complete_under b q r ≡ false
      → o ≡ going_on state.Invalid → IsOutcome m.behaviour q (s ++ x ∷ []) o
  immediate-invalid first b r same is incomplete value =
      rw is (shown-open m.behaviour q (s ++ step.Submit r ∷ []) o state.Invalid value
      (immediate-incomplete m.behaviour q s first unfinished (unanswered first) r (rw same at incomplete)))

  pub immediate-stays : grades_first m.behaviour ≡ true → (submitted x ≡ None) × (is_finish x ≡ false) → o ≡ going_on state.Todo → IsOutcome m.behaviour q (s ++ x ∷ []) o
  immediate-stays first other value =
      shown-open m.behaviour q (s ++ x ∷ []) o state.Todo value (immediate-passed m.behaviour q s first unfinished (unanswered first) x other.1 other.0)

  pub immediate-closes : grades_first m.behaviour ≡ true → x ≡ step.Finish → o ≡ ended_with (at_finish m.behaviour q s) → IfSome o.fraction IsEarnedFraction
      → IsOutcome m.behaviour q (s ++ x ∷ []) o
  immediate-closes first is value earned =
      rw is (shown-ended m.behaviour q (s ++ step.Finish ∷ []) o (at_finish m.behaviour q s) value earned
      (immediate-finished m.behaviour q s first unfinished (unanswered first)))

  pub deferred-keeps : is_deferred m.behaviour ≡ true → (r : Response) → (response_of x ≡ Some r) × (is_finish x ≡ false)
      → o ≡ going_on (if complete_under m.behaviour q r then state.Complete else state.Todo) → IsOutcome m.behaviour q (s ++ x ∷ []) o
  deferred-keeps one r is value = shown-open m.behaviour q (s ++ x ∷ []) o _ value (deferred-answered q s unfinished m.behaviour x r one is.1 is.0)

  pub deferred-stays : is_deferred m.behaviour ≡ true → (response_of x ≡ None) × (is_finish x ≡ false) → o ≡ m.outcome → IsOutcome m.behaviour q (s ++ x ∷ []) o
  deferred-stays one is same = shown-still same (deferred-passed q s unfinished m.behaviour x one is.1 is.0)

  pub deferred-closes : is_deferred m.behaviour ≡ true → x ≡ step.Finish → o ≡ ended_with (at_finish m.behaviour q s) → IfSome o.fraction IsEarnedFraction
      → IsOutcome m.behaviour q (s ++ x ∷ []) o
  deferred-closes one is value earned =
      rw is (shown-ended m.behaviour q (s ++ step.Finish ∷ []) o (at_finish m.behaviour q s) value earned (deferred-finished m.behaviour q s one))

  pub manual-keeps : m.behaviour ≡ behaviour.Manual → (r : Response) → (response_of x ≡ Some r) × (is_finish x ≡ false)
      → o ≡ going_on (if complete_under m.behaviour q r then state.Complete else state.Todo) → IsOutcome m.behaviour q (s ++ x ∷ []) o
  manual-keeps one r is value =
      rw one (shown-open behaviour.Manual q (s ++ x ∷ []) o _ (rw one at value) (manual-answered q s unfinished x r is.1 is.0))

  pub manual-stays : m.behaviour ≡ behaviour.Manual → (response_of x ≡ None) × (is_finish x ≡ false) → o ≡ m.outcome → IsOutcome m.behaviour q (s ++ x ∷ []) o
  manual-stays one is same = shown-still same (rw one (manual-passed q s unfinished x is.1 is.0))

  pub manual-closes : m.behaviour ≡ behaviour.Manual → x ≡ step.Finish
      → o ≡ ended_with (if complete_under m.behaviour q (last s) then state.NeedsGrading else state.GaveUp, None) → IsOutcome m.behaviour q (s ++ x ∷ []) o
  manual-closes one is value =
      rw (one, is) (shown-ended behaviour.Manual q (s ++ step.Finish ∷ []) o _ (rw one at value) (rw value tt) (manual-finished q s))

-- ---- all that a machine knows

fits-split : (b : Behaviour) (q : Question) (s : List Step) (x : Step) (o : Option Response) (f : Bool) → response_of x ≡ o → has_finish s ≡ f → StepFits b q x
    → (gradable q (last s) ≡ true → fits q (last s) b ≡ true) → gradable q (last (s ++ x ∷ [])) ≡ true → fits q (last (s ++ x ∷ [])) b ≡ true
fits-split b q s x o true is closed fit before gradable_now = rw (last-closed s x closed) (before (rw (last-closed s x closed) at gradable_now))
fits-split b q s x None false is none fit before gradable_now =
    let kept : last (s ++ x ∷ []) ≡ last s = last-kept s x (rw is (or-true (has_finish s))) in
    rw kept (before (rw kept at gradable_now))
fits-split b q s x (Some r) false is none fit before gradable_now =
    let now : last (s ++ x ∷ []) ≡ r = last-answered s x none (answers-other x r is) r is in
    rw now (rw is at fit)

pub after-more : (m n : Progress) (q : Question) (s : List Step) (x : Step) → IsAfter m q s → StepFits m.behaviour q x
    → n.behaviour ≡ m.behaviour → IsOutcome m.behaviour q (s ++ x ∷ []) n.outcome → IsLastPlace n.last (s ++ x ∷ []) → n.finished ≡ (m.finished || is_finish x)
    → IsAfter n q (s ++ x ∷ [])
after-more m n q s x after fit same shown place finished = record {
  plays = rw same after.plays;
  outcome = rw same shown.value;
  finished = finished ∙ ap (λ (b : Bool). b || is_finish x) after.finished ∙ sym (has_finish-more s x);
  last = place.at;
  inside = place.inside;
  fits = rw same (fits-split m.behaviour q s x (response_of x) (has_finish s) refl refl fit after.fits);
  earned = shown.earned;
}
