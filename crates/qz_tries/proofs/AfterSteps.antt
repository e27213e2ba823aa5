-- A machine stands after one more step.
use Rattle.std.proofs.Common.{◌≡◌, ℕ, ◌+◌, ◌<◌, ◌≤◌, Bool, true, false, not, ◌||◌, List, [], ◌∷◌, ◌++◌, length, Option, Some, None, IfSome, pos, ◌-ℤ◌, ◌*ℤ◌, refl, ap, sym, ◌∙◌, subst, arith, append-nil, length-append}
use Rattle.std.specs.Prelude.{find, unwrap_or, option_and_then, is_some, if◌then◌else◌}
use Rattle.std.specs.Int.{int_max}
use Rattle.qz_decimal.specs.Numbers.{IsEarnedFraction}
use Rattle.qz_grading.specs.declared.outcome.Behaviour.{Behaviour}
use Rattle.qz_grading.specs.declared.outcome.Behaviour.TheVariants as behaviour
use Rattle.qz_grading.specs.declared.outcome.Outcome.{Outcome}
use Rattle.qz_grading.specs.declared.outcome.State.TheVariants as state
use Rattle.qz_grading.specs.declared.question.Question.{Question}
use Rattle.qz_grading.specs.declared.response.Response.{Response}
use Rattle.qz_grading.specs.declared.response.Step.{Step}
use Rattle.qz_grading.specs.declared.response.Step.TheVariants as step
use Rattle.qz_grading.specs.Grading.{blank, fits, complete, gradable, grade}
use Rattle.qz_grading.specs.Steps.{is_finish, has_finish, last, last_of, response_of, response_at, submitted}
use Rattle.qz_grading.specs.Behaviours.{ending_try, complete_under, handed_in, ends_complete, ends_incomplete, is_right, changed, submitted_tries, penalty_under, outcome}
use Rattle.qz_grading.proofs.StepLemmas.{last_of-push, has_finish-push, has_finish-finished, last-finished, has_finish-closed, last-closed, last-answered, last-passed, handed_in-closed, handed_in-finished, handed_in-complete, handed_in-passed, handed_in-incomplete, ends_in_submit-push, slice_get-push, inside-more, step_at-kept}
use Rattle.qz_tries.specs.Progress.{Progress, is_adaptive, has_tries}
use Rattle.qz_tries.specs.After.{submitted_at, has_right_try, IsAfter}
use Rattle.qz_tries.specs.Parts.{is_new, gradable_last}
use Rattle.qz_tries.proofs.MoreSteps.{gradable_last-some, and-true}
use Rattle.qz_tries.proofs.InteractiveSteps as interactive
use Rattle.qz_tries.proofs.AdaptiveSteps as adaptive

-- ---- for each behaviour

-- the same complete Submits make the same tries
right-same : (b : Behaviour) (q : Question) (s t : List Step) → handed_in b q s ≡ handed_in b q t → has_right_try b q s ≡ has_right_try b q t
right-same behaviour.Interactive q s t e = refl
right-same b q s t e = ap (λ (rs : List Response). is_some (find (λ r. is_right (grade q r)) (changed rs))) e

outcome-closed : (b : Behaviour) (q : Question) (s : List Step) (x : Step) → has_tries b ≡ true → has_finish s ≡ true → outcome b q (s ++ x ∷ []) ≡ outcome b q s
outcome-closed behaviour.Interactive q s x plays closed = interactive.outcome-closed q s x closed
outcome-closed behaviour.Adaptive q s x plays closed = adaptive.outcome-closed behaviour.Adaptive q s x refl closed
outcome-closed behaviour.AdaptiveNoPenalty q s x plays closed = adaptive.outcome-closed behaviour.AdaptiveNoPenalty q s x refl closed
outcome-closed b q s x plays closed = absurd cc

-- what a step that is no try leaves of an outcome
abbrev pub waited : Outcome → Bool → Outcome
waited o incomplete = if o.ended then o else record o { state = if incomplete then state.Invalid else state.Todo; needs_again = false }

waited-open : (o : Outcome) (incomplete : Bool) → o.ended ≡ false → o.needs_again ≡ false → record o { state = if incomplete then state.Invalid else state.Todo } ≡ waited o incomplete
waited-open o incomplete open_yet no_need = rw (open_yet, no_need) refl

adaptive-open : (b : Behaviour) (q : Question) (s : List Step) → is_adaptive b ≡ true → has_finish s ≡ false → (outcome b q s).ended ≡ false
adaptive-open behaviour.Adaptive q s plays still = rw still refl
adaptive-open behaviour.AdaptiveNoPenalty q s plays still = rw still refl
adaptive-open b q s plays still = absurd cc

adaptive-no_need : (b : Behaviour) (q : Question) (s : List Step) → is_adaptive b ≡ true → (outcome b q s).needs_again ≡ false
adaptive-no_need behaviour.Adaptive q s plays = refl
adaptive-no_need behaviour.AdaptiveNoPenalty q s plays = refl
adaptive-no_need b q s plays = absurd cc

waits-adaptive : (b : Behaviour) (q : Question) (s : List Step) (x : Step) (incomplete : Bool) → is_adaptive b ≡ true → has_finish s ≡ false → is_finish x ≡ false
    → handed_in b q (s ++ x ∷ []) ≡ handed_in b q s → ends_incomplete b q (s ++ x ∷ []) ≡ incomplete
    → outcome b q (s ++ x ∷ []) ≡ waited (outcome b q s) incomplete
waits-adaptive b q s x incomplete plays still other same is =
    adaptive.waits b q s x incomplete plays still other (ap changed same) is
    ∙ waited-open (outcome b q s) incomplete (adaptive-open b q s plays still) (adaptive-no_need b q s plays)

waits : (b : Behaviour) (q : Question) (s : List Step) (x : Step) (incomplete : Bool) → has_tries b ≡ true → has_finish s ≡ false → is_finish x ≡ false
    → handed_in b q (s ++ x ∷ []) ≡ handed_in b q s → ends_complete b q (s ++ x ∷ []) ≡ false → ends_incomplete b q (s ++ x ∷ []) ≡ incomplete
    → outcome b q (s ++ x ∷ []) ≡ waited (outcome b q s) incomplete
waits behaviour.Interactive q s x incomplete plays still other same part is = interactive.waits q s x incomplete (ending_try behaviour.Interactive q s) refl still other same part is
waits behaviour.Adaptive q s x incomplete plays still other same part is = waits-adaptive behaviour.Adaptive q s x incomplete refl still other same is
waits behaviour.AdaptiveNoPenalty q s x incomplete plays still other same part is = waits-adaptive behaviour.AdaptiveNoPenalty q s x incomplete refl still other same is
waits b q s x incomplete plays still other same part is = absurd cc

-- ---- what is kept beside the outcome

one_longer : (s : List Step) (x : Step) (n : ℕ) → n ≤ length s → n ≤ length (s ++ x ∷ [])
one_longer s x n few = omega (arith, length-append s (x ∷ []))

place-response : (s : List Step) (x : Step) (r : Response) (place : ℕ) → place ≡ length s → response_of x ≡ Some r → response_at (s ++ x ∷ []) (Some place) ≡ r
place-response s x r place at_end responds = rw (at_end, slice_get-push s x, responds) refl

place-submitted : (s : List Step) (r : Response) (place : ℕ) → place ≡ length s → submitted_at (s ++ step.Submit r ∷ []) (Some place) ≡ Some r
place-submitted s r place at_end = rw (at_end, slice_get-push s (step.Submit r)) refl

place-inside : (s : List Step) (x : Step) (place : ℕ) → place ≡ length s → place < length (s ++ x ∷ [])
place-inside s x place at_end = omega (arith, length-append s (x ∷ []))

-- after a Finish nothing changes
pub closed : (m : Progress) (q : Question) (s : List Step) (x : Step) → IsAfter m q s → m.finished ≡ true → IsAfter m q (s ++ x ∷ [])
closed m q s x after finished =
    let done : has_finish s ≡ true = sym after.finished ∙ finished in
    record {
      plays = after.plays;
      finished = finished ∙ sym (has_finish-closed s x done);
      fits = rw (last-closed s x done) after.fits;
      outcome = after.outcome ∙ sym (outcome-closed m.behaviour q s x after.plays done);
      last = ap (λ (o : Option Step). unwrap_or (option_and_then response_of o) blank) (step_at-kept m.last s x after.inside) ∙ after.last ∙ sym (last-closed s x done);
      inside = inside-more m.last s x after.inside;
      handed_in = ap (option_and_then submitted) (step_at-kept m.handed_in s x after.handed_in_inside) ∙ after.handed_in ∙ ap last_of (sym (handed_in-closed m.behaviour q s x done));
      handed_in_inside = inside-more m.handed_in s x after.handed_in_inside;
      right = after.right ∙ sym (right-same m.behaviour q (s ++ x ∷ []) s (handed_in-closed m.behaviour q s x done));
      earned = after.earned;
      few = one_longer s x m.outcome.tries after.few;
    }

waited-fraction-by : (o : Outcome) (incomplete ended : Bool) → o.ended ≡ ended → (waited o incomplete).fraction ≡ o.fraction
waited-fraction-by o incomplete true is = rw is refl
waited-fraction-by o incomplete false is = rw is refl

waited-tries-by : (o : Outcome) (incomplete ended : Bool) → o.ended ≡ ended → (waited o incomplete).tries ≡ o.tries
waited-tries-by o incomplete true is = rw is refl
waited-tries-by o incomplete false is = rw is refl

-- under these behaviours nothing is asked of certainty
pub complete-under : (b : Behaviour) (q : Question) (r : Response) (v : Bool) → has_tries b ≡ true → complete q r ≡ v → complete_under b q r ≡ v
complete-under behaviour.Interactive q r v plays is = and-true (complete q r) ∙ is
complete-under behaviour.Adaptive q r v plays is = and-true (complete q r) ∙ is
complete-under behaviour.AdaptiveNoPenalty q r v plays is = and-true (complete q r) ∙ is
complete-under b q r v plays is = absurd cc

-- what stays where no complete Submit is added
stays : (m : Progress) (q : Question) (s : List Step) (x : Step) (o : Outcome) (incomplete : Bool) → IsAfter m q s → m.finished ≡ false → is_finish x ≡ false
    → handed_in m.behaviour q (s ++ x ∷ []) ≡ handed_in m.behaviour q s → ends_complete m.behaviour q (s ++ x ∷ []) ≡ false → ends_incomplete m.behaviour q (s ++ x ∷ []) ≡ incomplete → o ≡ waited m.outcome incomplete
    → (last' : Option ℕ) → response_at (s ++ x ∷ []) last' ≡ last (s ++ x ∷ []) → IfSome last' (λ place. place < length (s ++ x ∷ [])) → (gradable q (last (s ++ x ∷ [])) ≡ true → fits q (last (s ++ x ∷ [])) m.behaviour ≡ true)
    → IsAfter (record m { outcome = o; last = last' }) q (s ++ x ∷ [])
stays m q s x o incomplete after open_yet other same part is waits_is last' there inside' fitting =
    let still : has_finish s ≡ false = sym after.finished ∙ open_yet in
    record {
      plays = after.plays;
      finished = open_yet ∙ sym (has_finish-push s x other ∙ still);
      fits = fitting;
      outcome = waits_is ∙ ap (λ (p : Outcome). waited p incomplete) after.outcome ∙ sym (waits m.behaviour q s x incomplete after.plays still other same part is);
      last = there;
      inside = inside';
      handed_in = ap (option_and_then submitted) (step_at-kept m.handed_in s x after.handed_in_inside) ∙ after.handed_in ∙ ap last_of (sym same);
      handed_in_inside = inside-more m.handed_in s x after.handed_in_inside;
      right = after.right ∙ sym (right-same m.behaviour q (s ++ x ∷ []) s same);
      earned = rw (waits_is, waited-fraction-by m.outcome incomplete m.outcome.ended refl) after.earned;
      few = rw (waits_is, waited-tries-by m.outcome incomplete m.outcome.ended refl) (one_longer s x m.outcome.tries after.few);
    }

-- Again, or a Mark
pub passes : (m : Progress) (q : Question) (s : List Step) (x : Step) (o : Outcome) → IsAfter m q s → m.finished ≡ false → is_finish x ≡ false → response_of x ≡ None → submitted x ≡ None → o ≡ waited m.outcome false
    → IsAfter (record m { outcome = o }) q (s ++ x ∷ [])
passes m q s x o after open_yet other silent none waits_is =
    let still : has_finish s ≡ false = sym after.finished ∙ open_yet in
    let same_last : last (s ++ x ∷ []) ≡ last s = last-passed s x still other silent in
    let part : ends_complete m.behaviour q (s ++ x ∷ []) ≡ false = ends_in_submit-push (complete_under m.behaviour q) s x ∙ rw none refl in
    let is : ends_incomplete m.behaviour q (s ++ x ∷ []) ≡ false = ends_in_submit-push (λ (t : Response). not (complete_under m.behaviour q t)) s x ∙ rw none refl in
    stays m q s x o false after open_yet other (handed_in-passed m.behaviour q s x still other none) part is waits_is
    m.last (ap (λ (p : Option Step). unwrap_or (option_and_then response_of p) blank) (step_at-kept m.last s x after.inside) ∙ after.last ∙ sym same_last) (inside-more m.last s x after.inside) (rw same_last after.fits)

pub saves : (m : Progress) (q : Question) (s : List Step) (r : Response) (place : ℕ) (o : Outcome) → IsAfter m q s → m.finished ≡ false → fits q r m.behaviour ≡ true → place ≡ length s → o ≡ waited m.outcome false
    → IsAfter (record m { outcome = o; last = Some place }) q (s ++ step.Save r ∷ [])
saves m q s r place o after open_yet fitting at_end waits_is =
    let still : has_finish s ≡ false = sym after.finished ∙ open_yet in
    let last_is : last (s ++ step.Save r ∷ []) ≡ r = last-answered s (step.Save r) still refl r refl in
    let part : ends_complete m.behaviour q (s ++ step.Save r ∷ []) ≡ false = ends_in_submit-push (complete_under m.behaviour q) s (step.Save r) in
    let is : ends_incomplete m.behaviour q (s ++ step.Save r ∷ []) ≡ false = ends_in_submit-push (λ (t : Response). not (complete_under m.behaviour q t)) s (step.Save r) in
    stays m q s (step.Save r) o false after open_yet refl (handed_in-passed m.behaviour q s (step.Save r) still refl refl) part is waits_is
    (Some place) (place-response s (step.Save r) r place at_end refl ∙ sym last_is) (place-inside s (step.Save r) place at_end) (rw last_is (λ can. fitting))

pub submits_incomplete : (m : Progress) (q : Question) (s : List Step) (r : Response) (place : ℕ) (o : Outcome) → IsAfter m q s → m.finished ≡ false → fits q r m.behaviour ≡ true → complete q r ≡ false → place ≡ length s → o ≡ waited m.outcome true
    → IsAfter (record m { outcome = o; last = Some place }) q (s ++ step.Submit r ∷ [])
submits_incomplete m q s r place o after open_yet fitting partial at_end waits_is =
    let still : has_finish s ≡ false = sym after.finished ∙ open_yet in
    let under : complete_under m.behaviour q r ≡ false = complete-under m.behaviour q r false after.plays partial in
    let last_is : last (s ++ step.Submit r ∷ []) ≡ r = last-answered s (step.Submit r) still refl r refl in
    let part : ends_complete m.behaviour q (s ++ step.Submit r ∷ []) ≡ false = ends_in_submit-push (complete_under m.behaviour q) s (step.Submit r) ∙ under in
    let is : ends_incomplete m.behaviour q (s ++ step.Submit r ∷ []) ≡ true = ends_in_submit-push (λ (t : Response). not (complete_under m.behaviour q t)) s (step.Submit r) ∙ ap not under in
    stays m q s (step.Submit r) o true after open_yet refl (handed_in-incomplete m.behaviour q s r still under) part is waits_is
    (Some place) (place-response s (step.Submit r) r place at_end refl ∙ sym last_is) (place-inside s (step.Submit r) place at_end) (rw last_is (λ can. fitting))

-- a complete Submit, with what comes of it
pub hands_in : (m : Progress) (q : Question) (s : List Step) (r : Response) (place : ℕ) (o : Outcome) (right' : Bool) → IsAfter m q s → m.finished ≡ false → fits q r m.behaviour ≡ true → complete q r ≡ true → place ≡ length s
    → o ≡ outcome m.behaviour q (s ++ step.Submit r ∷ []) → IfSome o.fraction IsEarnedFraction → o.tries ≤ m.outcome.tries + 1 → right' ≡ has_right_try m.behaviour q (s ++ step.Submit r ∷ [])
    → IsAfter (record m { outcome = o; last = Some place; handed_in = Some place; right = right' }) q (s ++ step.Submit r ∷ [])
hands_in m q s r place o right' after open_yet fitting whole at_end is earned' few' right_is =
    let still : has_finish s ≡ false = sym after.finished ∙ open_yet in
    let last_is : last (s ++ step.Submit r ∷ []) ≡ r = last-answered s (step.Submit r) still refl r refl in
    let more : handed_in m.behaviour q (s ++ step.Submit r ∷ []) ≡ handed_in m.behaviour q s ++ r ∷ [] = handed_in-complete m.behaviour q s r still (complete-under m.behaviour q r true after.plays whole) in
    record {
      plays = after.plays;
      finished = open_yet ∙ sym (has_finish-push s (step.Submit r) refl ∙ still);
      fits = rw last_is (λ can. fitting);
      outcome = is;
      last = place-response s (step.Submit r) r place at_end refl ∙ sym last_is;
      inside = place-inside s (step.Submit r) place at_end;
      handed_in = place-submitted s r place at_end ∙ sym (ap last_of more ∙ last_of-push None (handed_in m.behaviour q s) r);
      handed_in_inside = place-inside s (step.Submit r) place at_end;
      right = right_is;
      earned = earned';
      few = omega (arith, after.few, few', length-append s (step.Submit r ∷ []));
    }

-- the Finish, with what comes of it
pub finishes : (m : Progress) (q : Question) (s : List Step) (o : Outcome) → IsAfter m q s → m.finished ≡ false
    → o ≡ outcome m.behaviour q (s ++ step.Finish ∷ []) → IfSome o.fraction IsEarnedFraction → o.tries ≤ m.outcome.tries + 1
    → IsAfter (record m { outcome = o; finished = true }) q (s ++ step.Finish ∷ [])
finishes m q s o after open_yet is earned' few' = record {
  plays = after.plays;
  finished = sym (has_finish-finished s);
  fits = rw (last-finished s) after.fits;
  outcome = is;
  last = ap (λ (p : Option Step). unwrap_or (option_and_then response_of p) blank) (step_at-kept m.last s step.Finish after.inside) ∙ after.last ∙ sym (last-finished s);
  inside = inside-more m.last s step.Finish after.inside;
  handed_in = ap (option_and_then submitted) (step_at-kept m.handed_in s step.Finish after.handed_in_inside) ∙ after.handed_in ∙ ap last_of (sym (handed_in-finished m.behaviour q s));
  handed_in_inside = inside-more m.handed_in s step.Finish after.handed_in_inside;
  right = after.right ∙ sym (right-same m.behaviour q (s ++ step.Finish ∷ []) s (handed_in-finished m.behaviour q s));
  earned = earned';
  few = omega (arith, after.few, few', length-append s (step.Finish ∷ []));
}

-- ---- whether some try was right

pub right-interactive : (b : Behaviour) (q : Question) (s t : List Step) (right : Bool) → b ≡ behaviour.Interactive → right ≡ has_right_try b q s → right ≡ has_right_try b q t
right-interactive b q s t right is kept = kept ∙ ap (λ (a : Behaviour). has_right_try a q s) is ∙ ap (λ (a : Behaviour). has_right_try a q t) (sym is)

right-adaptive : (b : Behaviour) (q : Question) (s : List Step) → is_adaptive b ≡ true → has_right_try b q s ≡ is_some (find (λ r. is_right (grade q r)) (submitted_tries b q s))
right-adaptive behaviour.Adaptive q s plays = refl
right-adaptive behaviour.AdaptiveNoPenalty q s plays = refl
right-adaptive b q s plays = absurd cc

pub right-new : (b : Behaviour) (q : Question) (s : List Step) (r : Response) → is_adaptive b ≡ true → has_finish s ≡ false → complete_under b q r ≡ true → is_new (last_of (handed_in b q s)) r ≡ true
    → (has_right_try b q s || is_right (grade q r)) ≡ has_right_try b q (s ++ step.Submit r ∷ [])
right-new b q s r plays still whole new =
    let more : submitted_tries b q (s ++ step.Submit r ∷ []) ≡ submitted_tries b q s ++ r ∷ [] = adaptive.submitted_tries-complete b q s r still whole ∙ rw new refl in
    ap (λ (v : Bool). v || is_right (grade q r)) (right-adaptive b q s plays)
    ∙ sym (right-adaptive b q (s ++ step.Submit r ∷ []) plays ∙ ap (λ (ts : List Response). is_some (find (λ t. is_right (grade q t)) ts)) more ∙ adaptive.right-push q (submitted_tries b q s) r)

pub right-again : (b : Behaviour) (q : Question) (s : List Step) (r : Response) → is_adaptive b ≡ true → has_finish s ≡ false → complete_under b q r ≡ true → is_new (last_of (handed_in b q s)) r ≡ false
    → has_right_try b q s ≡ has_right_try b q (s ++ step.Submit r ∷ [])
right-again b q s r plays still whole again =
    let same : submitted_tries b q (s ++ step.Submit r ∷ []) ≡ submitted_tries b q s = adaptive.submitted_tries-complete b q s r still whole ∙ rw again (append-nil (submitted_tries b q s)) in
    right-adaptive b q s plays ∙ ap (λ (ts : List Response). is_some (find (λ t. is_right (grade q t)) ts)) (sym same) ∙ sym (right-adaptive b q (s ++ step.Submit r ∷ []) plays)

-- the last response fits, where it can be graded
pub last-fits : (b : Behaviour) (q : Question) (s : List Step) (r : Option Response) → r ≡ gradable_last q s → (gradable q (last s) ≡ true → fits q (last s) b ≡ true) → IfSome r (λ t. fits q t b ≡ true)
last-fits b q s None is fitting = tt
last-fits b q s (Some r) is fitting =
    let last_is = gradable_last-some q s r is in
    ap (λ (t : Response). fits q t b) last_is.1 ∙ fitting last_is.0

-- a machine that is seen as another value of the same
pub seen_after : {m v : Progress} (q : Question) (s : List Step) → m ≡ v → IsAfter v q s → IsAfter m q s
seen_after q s view after = let P : Progress → Type 0 = λ p. IsAfter p q s in subst P (sym view) after

pub seen_fits : {m v : Progress} (q : Question) (r : Response) → m ≡ v → fits q r v.behaviour ≡ true → fits q r m.behaviour ≡ true
seen_fits q r view fitting = ap (λ (p : Progress). fits q r p.behaviour) view ∙ fitting

pub seen_finished : {m v : Progress} (b : Bool) → m ≡ v → v.finished ≡ b → m.finished ≡ b
seen_finished b view is = ap (λ (p : Progress). p.finished) view ∙ is

-- ---- a complete Submit under an adaptive behaviour

pub tries_adaptive : (m : Progress) (q : Question) (s : List Step) (r : Response) (o : Outcome) (right' : Bool) → IsAfter m q s → m.finished ≡ false → is_adaptive m.behaviour ≡ true → fits q r m.behaviour ≡ true → complete q r ≡ true → is_new (submitted_at s m.handed_in) r ≡ true
    → right' ≡ (m.right || is_right (grade q r))
    → o ≡ record { state = if right' then state.Complete else state.Todo; fraction = Some (int_max (unwrap_or m.outcome.fraction (pos 0)) (grade q r -ℤ pos m.outcome.tries *ℤ penalty_under m.behaviour q)); ended = false; needs_again = false; tries = m.outcome.tries + 1 }
    → IfSome o.fraction IsEarnedFraction
    → IsAfter (record m { outcome = o; last = Some (length s); handed_in = Some (length s); right = right' }) q (s ++ step.Submit r ∷ [])
tries_adaptive m q s r o right' after open_yet plays fitting whole new right_is is earned' =
    let still : has_finish s ≡ false = sym after.finished ∙ open_yet in
    let under : complete_under m.behaviour q r ≡ true = complete-under m.behaviour q r true after.plays whole in
    let differs : is_new (last_of (handed_in m.behaviour q s)) r ≡ true = ap (λ (t : Option Response). is_new t r) (sym after.handed_in) ∙ new in
    let was : right' ≡ (has_right_try m.behaviour q s || is_right (grade q r)) = right_is ∙ ap (λ (v : Bool). v || is_right (grade q r)) after.right in
    hands_in m q s r (length s) o right' after open_yet fitting whole refl
    (is ∙ adaptive.try_more m.outcome m.behaviour q s r plays still after.outcome under differs right' (was ∙ ap (λ (v : Bool). v || is_right (grade q r)) (right-adaptive m.behaviour q s plays)))
    earned' (let one_more : o.tries ≡ m.outcome.tries + 1 = ap (λ (p : Outcome). p.tries) is in omega (arith, one_more))
    (was ∙ right-new m.behaviour q s r plays still under differs)

pub repeats_adaptive : (m : Progress) (q : Question) (s : List Step) (r : Response) (o : Outcome) → IsAfter m q s → m.finished ≡ false → is_adaptive m.behaviour ≡ true → fits q r m.behaviour ≡ true → complete q r ≡ true → is_new (submitted_at s m.handed_in) r ≡ false
    → o ≡ waited m.outcome false
    → IsAfter (record m { outcome = o; last = Some (length s); handed_in = Some (length s) }) q (s ++ step.Submit r ∷ [])
repeats_adaptive m q s r o after open_yet plays fitting whole again is =
    let still : has_finish s ≡ false = sym after.finished ∙ open_yet in
    let under : complete_under m.behaviour q r ≡ true = complete-under m.behaviour q r true after.plays whole in
    let same : is_new (last_of (handed_in m.behaviour q s)) r ≡ false = ap (λ (t : Option Response). is_new t r) (sym after.handed_in) ∙ again in
    hands_in m q s r (length s) o m.right after open_yet fitting whole refl
    (is ∙ ap (λ (p : Outcome). waited p false) after.outcome
    ∙ sym (adaptive.repeats m.behaviour q s r plays still under same ∙ waited-open (outcome m.behaviour q s) false (adaptive-open m.behaviour q s plays still) (adaptive-no_need m.behaviour q s plays)))
    (rw (is, waited-fraction-by m.outcome false m.outcome.ended refl) after.earned)
    (let kept : o.tries ≡ m.outcome.tries = ap (λ (p : Outcome). p.tries) is ∙ waited-tries-by m.outcome false m.outcome.ended refl in omega (arith, kept))
    (after.right ∙ right-again m.behaviour q s r plays still under same)
