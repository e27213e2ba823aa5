-- The outcome of an interactive slot after one more step.
use Rattle.std.proofs.Common.{◌≡◌, ℕ, ◌+◌, ◌-◌, Bool, true, false, not, ◌&&◌, ◌||◌, List, [], ◌∷◌, ◌++◌, length, Option, Some, None, refl, ap, sym, ◌∙◌, arith, length-append}
use Rattle.std.specs.Prelude.{find, if◌then◌else◌, ◌==◌}
use Rattle.std.specs.List.{enumerate_from}
use Rattle.std.specs.Option.{option_or}
use Rattle.std.proofs.lemmas.List.Folds.{find-append}
use Rattle.qz_lemmas.proofs.Lists.{enumerate-append}
use Rattle.qz_lemmas.proofs.Bools.{and-false}
use Rattle.qz_grading.specs.declared.outcome.Behaviour.TheVariants.{Interactive}
use Rattle.qz_grading.specs.declared.outcome.Outcome.{Outcome}
use Rattle.qz_grading.specs.declared.outcome.State.TheVariants as state
use Rattle.qz_grading.specs.declared.question.Question.{Question}
use Rattle.qz_grading.specs.declared.response.Response.{Response}
use Rattle.qz_grading.specs.declared.response.Step.{Step}
use Rattle.qz_grading.specs.declared.response.Step.TheVariants as step
use Rattle.qz_grading.specs.Grading.{complete, gradable, grade}
use Rattle.qz_grading.specs.Steps.{is_finish, has_finish, before, last}
use Rattle.qz_grading.specs.Behaviours.{complete_under, handed_in, ends_complete, ends_incomplete, ending_try, tries_allowed, is_right, graded, penalised, outcome}
use Rattle.qz_grading.proofs.StepLemmas.{has_finish-push, has_finish-finished, before-open, before-finished, has_finish-closed, before-closed, handed_in-complete, ends_in_submit-push}
use Rattle.qz_tries.specs.Parts.{gradable_last}
use Rattle.qz_tries.proofs.MoreSteps.{gradable_last-none, gradable_last-some}

-- a try, with its number, that ends the slot
abbrev pub ends : Question → ℕ × Response → Bool
ends q t = is_right (grade q t.1) || (t.0 == tries_allowed q)

abbrev ending_of : Question → List Response → Option (ℕ × Response)
ending_of q tries = find (ends q) (enumerate_from 1 tries)

-- after a Finish nothing changes
pub outcome-closed : (q : Question) (s : List Step) (x : Step) → has_finish s ≡ true → outcome Interactive q (s ++ x ∷ []) ≡ outcome Interactive q s
outcome-closed q s x closed = rw (before-closed s x closed, has_finish-closed s x closed, closed) refl

-- a step that is no complete Submit: an ended slot stays as it is, and another goes on
pub waits : (q : Question) (s : List Step) (x : Step) (incomplete : Bool) (e : Option (ℕ × Response)) → ending_try Interactive q s ≡ e → has_finish s ≡ false → is_finish x ≡ false
    → handed_in Interactive q (s ++ x ∷ []) ≡ handed_in Interactive q s → ends_complete Interactive q (s ++ x ∷ []) ≡ false → ends_incomplete Interactive q (s ++ x ∷ []) ≡ incomplete
    → outcome Interactive q (s ++ x ∷ []) ≡ (if (outcome Interactive q s).ended then outcome Interactive q s else record (outcome Interactive q s) { state = if incomplete then state.Invalid else state.Todo; needs_again = false })
waits q s x incomplete None none still other same partial is =
    let open_still : has_finish (s ++ x ∷ []) ≡ false = has_finish-push s x other ∙ still in
    let all : before (s ++ x ∷ []) ≡ s ++ x ∷ [] = before-open (s ++ x ∷ []) open_still in
    rw (open_still, still, same, none, all, partial, is) refl
waits q s x incomplete (Some t) ending still other same partial is =
    let open_still : has_finish (s ++ x ∷ []) ≡ false = has_finish-push s x other ∙ still in
    rw (open_still, still, same, ending, and-false, and-false) refl

-- ---- a complete Submit

ending_of-push : (q : Question) (tries : List Response) (r : Response) → ending_of q (tries ++ r ∷ []) ≡ option_or (ending_of q tries) (if ends q (length tries + 1, r) then Some (length tries + 1, r) else None)
ending_of-push q tries r =
    let count : 1 + length tries ≡ length tries + 1 = omega arith in
    ap (find (ends q)) (enumerate-append 1 tries (r ∷ []))
    ∙ find-append (ends q) (enumerate_from 1 tries) (enumerate_from (1 + length tries) (r ∷ []))
    ∙ ap (λ (n : ℕ). option_or (ending_of q tries) (if ends q (n, r) then Some (n, r) else None)) count

-- the try that ended the slot stays the one
pub tries_more : (q : Question) (s : List Step) (r : Response) (e : Option (ℕ × Response)) → ending_try Interactive q s ≡ e → has_finish s ≡ false → complete_under Interactive q r ≡ true → (outcome Interactive q s).ended ≡ true
    → outcome Interactive q (s ++ step.Submit r ∷ []) ≡ record (outcome Interactive q s) { tries = (outcome Interactive q s).tries + 1 }
tries_more q s r None none still whole ended = let h = rw (still, none) at ended in absurd cc
tries_more q s r (Some t) ending still whole ended =
    let open_still : has_finish (s ++ step.Submit r ∷ []) ≡ false = has_finish-push s (step.Submit r) refl ∙ still in
    let same : ending_of q (handed_in Interactive q s ++ r ∷ []) ≡ Some t = ending_of-push q (handed_in Interactive q s) r ∙ rw ending refl in
    rw (open_still, still, handed_in-complete Interactive q s r still whole, same, ending, and-false, and-false, length-append (handed_in Interactive q s) (r ∷ [])) refl

-- a try that ends the slot
pub ends_now : (q : Question) (s : List Step) (r : Response) (e : Option (ℕ × Response)) → ending_try Interactive q s ≡ e → has_finish s ≡ false → complete_under Interactive q r ≡ true → (outcome Interactive q s).ended ≡ false
    → ends q ((outcome Interactive q s).tries + 1, r) ≡ true
    → outcome Interactive q (s ++ step.Submit r ∷ []) ≡ record { state = graded (grade q r); fraction = Some (penalised q (outcome Interactive q s).tries r); ended = true; needs_again = false; tries = (outcome Interactive q s).tries + 1 }
ends_now q s r (Some t) ending still whole open_yet now = let h = rw (still, ending) at open_yet in absurd cc
ends_now q s r None none still whole open_yet now =
    let open_still : has_finish (s ++ step.Submit r ∷ []) ≡ false = has_finish-push s (step.Submit r) refl ∙ still in
    let here : ending_of q (handed_in Interactive q s ++ r ∷ []) ≡ Some (length (handed_in Interactive q s) + 1, r) = ending_of-push q (handed_in Interactive q s) r ∙ rw (none, now) refl in
    let before_it : length (handed_in Interactive q s) + 1 - 1 ≡ length (handed_in Interactive q s) = omega arith in
    rw (open_still, handed_in-complete Interactive q s r still whole, here, and-false, length-append (handed_in Interactive q s) (r ∷ []), before_it) refl

-- a try that doesn't: "try again" is needed
pub goes_on : (q : Question) (s : List Step) (r : Response) (e : Option (ℕ × Response)) → ending_try Interactive q s ≡ e → has_finish s ≡ false → complete_under Interactive q r ≡ true → (outcome Interactive q s).ended ≡ false
    → ends q ((outcome Interactive q s).tries + 1, r) ≡ false
    → outcome Interactive q (s ++ step.Submit r ∷ []) ≡ record { state = state.Todo; fraction = None; ended = false; needs_again = true; tries = (outcome Interactive q s).tries + 1 }
goes_on q s r (Some t) ending still whole open_yet goes = let h = rw (still, ending) at open_yet in absurd cc
goes_on q s r None none still whole open_yet goes =
    let open_still : has_finish (s ++ step.Submit r ∷ []) ≡ false = has_finish-push s (step.Submit r) refl ∙ still in
    let all : before (s ++ step.Submit r ∷ []) ≡ s ++ step.Submit r ∷ [] = before-open (s ++ step.Submit r ∷ []) open_still in
    let nowhere : ending_of q (handed_in Interactive q s ++ r ∷ []) ≡ None = ending_of-push q (handed_in Interactive q s) r ∙ rw (none, goes) refl in
    let whole_end : ends_complete Interactive q (s ++ step.Submit r ∷ []) ≡ true = ends_in_submit-push (complete_under Interactive q) s (step.Submit r) ∙ whole in
    let no_part : ends_incomplete Interactive q (s ++ step.Submit r ∷ []) ≡ false = ends_in_submit-push (λ (t : Response). not (complete_under Interactive q t)) s (step.Submit r) ∙ ap not whole in
    rw (open_still, handed_in-complete Interactive q s r still whole, nowhere, all, whole_end, no_part, length-append (handed_in Interactive q s) (r ∷ [])) refl

-- ---- the Finish

pub finishes_ended : (q : Question) (s : List Step) (e : Option (ℕ × Response)) → ending_try Interactive q s ≡ e → has_finish s ≡ false → (outcome Interactive q s).ended ≡ true
    → outcome Interactive q (s ++ step.Finish ∷ []) ≡ outcome Interactive q s
finishes_ended q s None none still ended = let h = rw (still, none) at ended in absurd cc
finishes_ended q s (Some t) ending still ended = rw (has_finish-finished s, still, before-finished s, ending, and-false) refl

-- no try ended the slot: the last response is graded, where it can be
pub graded_finish : (q : Question) (s : List Step) (e : Option (ℕ × Response)) → ending_try Interactive q s ≡ e → has_finish s ≡ false → (outcome Interactive q s).ended ≡ false → gradable q (last s) ≡ true
    → outcome Interactive q (s ++ step.Finish ∷ []) ≡ record { state = graded (grade q (last s)); fraction = Some (penalised q (outcome Interactive q s).tries (last s)); ended = true; needs_again = false; tries = (outcome Interactive q s).tries }
graded_finish q s (Some t) ending still open_yet can = let h = rw (still, ending) at open_yet in absurd cc
graded_finish q s None none still open_yet can = rw (has_finish-finished s, before-finished s, none, can, and-false) refl

pub gives_up : (q : Question) (s : List Step) (e : Option (ℕ × Response)) → ending_try Interactive q s ≡ e → has_finish s ≡ false → (outcome Interactive q s).ended ≡ false → gradable q (last s) ≡ false
    → outcome Interactive q (s ++ step.Finish ∷ []) ≡ record { state = state.GaveUp; fraction = None; ended = true; needs_again = false; tries = (outcome Interactive q s).tries }
gives_up q s (Some t) ending still open_yet cannot = let h = rw (still, ending) at open_yet in absurd cc
gives_up q s None none still open_yet cannot = rw (has_finish-finished s, before-finished s, none, cannot, and-false) refl

-- ---- the same, for an outcome that is known to be that of the list

pub try_after_end : (o : Outcome) (q : Question) (s : List Step) (r : Response) → has_finish s ≡ false → o ≡ outcome Interactive q s → complete q r ≡ true → o.ended ≡ true
    → record o { tries = o.tries + 1 } ≡ outcome Interactive q (s ++ step.Submit r ∷ [])
try_after_end o q s r still is whole ended =
    ap (λ (p : Outcome). record p { tries = p.tries + 1 }) is ∙ sym (tries_more q s r (ending_try Interactive q s) refl still (ap (λ (b : Bool). b && true) whole) (ap (λ (p : Outcome). p.ended) (sym is) ∙ ended))

pub try_that_ends : (o : Outcome) (q : Question) (s : List Step) (r : Response) → has_finish s ≡ false → o ≡ outcome Interactive q s → complete q r ≡ true → o.ended ≡ false → ends q (o.tries + 1, r) ≡ true
    → record { state = graded (grade q r); fraction = Some (penalised q o.tries r); ended = true; needs_again = false; tries = o.tries + 1 } ≡ outcome Interactive q (s ++ step.Submit r ∷ [])
try_that_ends o q s r still is whole open_yet now =
    let count : o.tries ≡ (outcome Interactive q s).tries = ap (λ (p : Outcome). p.tries) is in
    ap (λ (n : ℕ). record { state = graded (grade q r); fraction = Some (penalised q n r); ended = true; needs_again = false; tries = n + 1 }) count
    ∙ sym (ends_now q s r (ending_try Interactive q s) refl still (ap (λ (b : Bool). b && true) whole) (ap (λ (p : Outcome). p.ended) (sym is) ∙ open_yet) (ap (λ (n : ℕ). ends q (n + 1, r)) (sym count) ∙ now))

pub try_that_goes_on : (o : Outcome) (q : Question) (s : List Step) (r : Response) → has_finish s ≡ false → o ≡ outcome Interactive q s → complete q r ≡ true → o.ended ≡ false → ends q (o.tries + 1, r) ≡ false
    → record { state = state.Todo; fraction = None; ended = false; needs_again = true; tries = o.tries + 1 } ≡ outcome Interactive q (s ++ step.Submit r ∷ [])
try_that_goes_on o q s r still is whole open_yet goes =
    let count : o.tries ≡ (outcome Interactive q s).tries = ap (λ (p : Outcome). p.tries) is in
    ap (λ (n : ℕ). record { state = state.Todo; fraction = None; ended = false; needs_again = true; tries = n + 1 }) count
    ∙ sym (goes_on q s r (ending_try Interactive q s) refl still (ap (λ (b : Bool). b && true) whole) (ap (λ (p : Outcome). p.ended) (sym is) ∙ open_yet) (ap (λ (n : ℕ). ends q (n + 1, r)) (sym count) ∙ goes))

pub finish_after_end : (o : Outcome) (q : Question) (s : List Step) → has_finish s ≡ false → o ≡ outcome Interactive q s → o.ended ≡ true → o ≡ outcome Interactive q (s ++ step.Finish ∷ [])
finish_after_end o q s still is ended = is ∙ sym (finishes_ended q s (ending_try Interactive q s) refl still (ap (λ (p : Outcome). p.ended) (sym is) ∙ ended))

pub finish_gives_up : (o : Outcome) (q : Question) (s : List Step) → has_finish s ≡ false → o ≡ outcome Interactive q s → o.ended ≡ false → None ≡ gradable_last q s
    → record { state = state.GaveUp; fraction = None; ended = true; needs_again = false; tries = o.tries } ≡ outcome Interactive q (s ++ step.Finish ∷ [])
finish_gives_up o q s still is open_yet none =
    ap (λ (p : Outcome). record { state = state.GaveUp; fraction = None; ended = true; needs_again = false; tries = p.tries }) is
    ∙ sym (gives_up q s (ending_try Interactive q s) refl still (ap (λ (p : Outcome). p.ended) (sym is) ∙ open_yet) (gradable_last-none q s none))

pub finish_graded : (o : Outcome) (q : Question) (s : List Step) (r : Response) → has_finish s ≡ false → o ≡ outcome Interactive q s → o.ended ≡ false → Some r ≡ gradable_last q s
    → record { state = graded (grade q r); fraction = Some (penalised q o.tries r); ended = true; needs_again = false; tries = o.tries } ≡ outcome Interactive q (s ++ step.Finish ∷ [])
finish_graded o q s r still is open_yet some =
    let last_is = gradable_last-some q s r some in
    ap (λ (p : Outcome). record { state = graded (grade q r); fraction = Some (penalised q p.tries r); ended = true; needs_again = false; tries = p.tries }) is
    ∙ ap (λ (t : Response). record { state = graded (grade q t); fraction = Some (penalised q (outcome Interactive q s).tries t); ended = true; needs_again = false; tries = (outcome Interactive q s).tries }) last_is.1
    ∙ sym (graded_finish q s (ending_try Interactive q s) refl still (ap (λ (p : Outcome). p.ended) (sym is) ∙ open_yet) last_is.0)
