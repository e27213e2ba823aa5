-- The outcome of an adaptive slot after one more step.
use Rattle.std.proofs.Common.{◌≡◌, ℕ, ◌+◌, Bool, true, false, not, ◌&&◌, ◌||◌, List, [], ◌∷◌, ◌++◌, length, Option, Some, None, ℤ, pos, ◌-ℤ◌, ◌*ℤ◌, refl, ap, sym, ◌∙◌, arith, length-append, append-nil, bytes_eq}
use Rattle.std.specs.Prelude.{find, fold, map, unwrap_or, is_some, if◌then◌else◌, ◌==◌, nat_lt}
use Rattle.std.specs.List.{enumerate_from, last_or}
use Rattle.std.specs.Int.{int_max}
use Rattle.std.specs.Option.{option_or}
use Rattle.std.proofs.lemmas.Bool.{le-ltb, lt-ltb, and_parts, eqb-true}
use Rattle.std.proofs.lemmas.List.{map-append}
use Rattle.std.proofs.lemmas.List.Folds.{find-append}
use Rattle.std.proofs.lemmas.List.Sums.{fold-append}
use Rattle.std.proofs.lemmas.Slice.Eq.{bytes_eq-Decides}
use Rattle.qz_lemmas.proofs.Lists.{enumerate-append}
use Rattle.qz_lemmas.proofs.Bools.{and-false}
use Rattle.qz_grading.specs.declared.outcome.Behaviour.{Behaviour}
use Rattle.qz_grading.specs.declared.outcome.Behaviour.TheVariants.{Adaptive, AdaptiveNoPenalty}
use Rattle.qz_grading.specs.declared.outcome.Outcome.{Outcome}
use Rattle.qz_grading.specs.declared.outcome.State.TheVariants as state
use Rattle.qz_grading.specs.declared.question.Question.{Question}
use Rattle.qz_grading.specs.declared.response.Answer.{Answer}
use Rattle.qz_grading.specs.declared.response.Answer.TheVariants as answer
use Rattle.qz_grading.specs.declared.response.Response.{Response}
use Rattle.qz_grading.specs.declared.response.Step.{Step}
use Rattle.qz_grading.specs.declared.response.Step.TheVariants as step
use Rattle.qz_grading.specs.Grading.{same, same_answer, gradable, grade}
use Rattle.qz_grading.specs.Steps.{is_finish, has_finish, last, last_of}
use Rattle.qz_grading.specs.Behaviours.{complete_under, handed_in, ends_complete, ends_incomplete, is_right, graded, changed, changed_after, further, submitted_tries, adaptive_tries, best_try, penalty_under, adaptive_state, adaptive, outcome}
use Rattle.qz_grading.proofs.StepLemmas.{before-closed, before-finished, ends_in_submit-push, handed_in-complete, has_finish-closed, has_finish-finished, has_finish-push, or-false}
use Rattle.qz_tries.specs.Progress.{is_adaptive}
use Rattle.qz_tries.specs.Parts.{is_new, gradable_last}
use Rattle.qz_tries.proofs.MoreSteps.{gradable_last-none, gradable_last-some, without_last-push}

-- ---- responses that are the same are equal

same_bytes : (a b : List ℕ) → bytes_eq a b ≡ true → a ≡ b
same_bytes a b h = (bytes_eq-Decides a b).0 h

same_answer-equal : (a b : Answer) → same_answer a b ≡ true → a ≡ b
same_answer-equal answer.Blank answer.Blank h = refl
same_answer-equal (answer.Pick a) (answer.Pick b) h = ap (λ (n : ℕ). answer.Pick n) (eqb-true a b h)
same_answer-equal (answer.Picks a) (answer.Picks b) h = ap (λ (t : List ℕ). answer.Picks t) (same_bytes a b h)
same_answer-equal (answer.Match a) (answer.Match b) h = ap (λ (t : List ℕ). answer.Match t) (same_bytes a b h)
same_answer-equal (answer.Words a) (answer.Words b) h = ap (λ (t : List ℕ). answer.Words t) (same_bytes a b h)
same_answer-equal a b h = absurd cc

pub same-equal : (a b : Response) → same a b ≡ true → a ≡ b
same-equal a b h =
    let parts = and_parts (same_answer a.answer b.answer) (a.certainty == b.certainty) h in
    ap (λ (x : Answer). record { answer = x; certainty = a.certainty }) (same_answer-equal a.answer b.answer parts.0)
    ∙ ap (λ (n : ℕ). record { answer = b.answer; certainty = n }) (eqb-true a.certainty b.certainty parts.1)

-- ---- the tries

changed_after-last-cons : (r t : Response) (ts : List Response) (b : Bool) → same r t ≡ b → last_or (Some t) (changed_after t ts) ≡ last_or (Some t) ts → last_or (Some r) (changed_after r (t ∷ ts)) ≡ last_or (Some t) ts
changed_after-last-cons r t ts true is rest = rw is (ap (λ (u : Response). last_or (Some u) (changed_after t ts)) (same-equal r t is) ∙ rest)
changed_after-last-cons r t ts false isn't rest = rw isn't rest

changed_after-last : (r : Response) (ts : List Response) → last_or (Some r) (changed_after r ts) ≡ last_or (Some r) ts
changed_after-last r [] = refl
changed_after-last r (t ∷ ts) = changed_after-last-cons r t ts (same r t) refl (changed_after-last t ts)

-- the last try is the last complete Submit
pub last_of-changed : (rs : List Response) → last_of (changed rs) ≡ last_of rs
last_of-changed [] = refl
last_of-changed (r ∷ rs) = changed_after-last r rs

changed_after-one : (r x : Response) (b : Bool) → same r x ≡ b → changed_after r (x ∷ []) ≡ (if not b then x ∷ [] else [])
changed_after-one r x true is = rw is refl
changed_after-one r x false isn't = rw isn't refl

changed_after-push-cons : (r t : Response) (ts more : List Response) (x : Response) (b : Bool) → same r t ≡ b → changed_after t (ts ++ x ∷ []) ≡ changed_after t ts ++ more → changed_after r (t ∷ (ts ++ x ∷ [])) ≡ changed_after r (t ∷ ts) ++ more
changed_after-push-cons r t ts more x true is rest = rw is rest
changed_after-push-cons r t ts more x false isn't rest = rw isn't (ap (λ (u : List Response). t ∷ u) rest)

changed_after-push : (r : Response) (ts : List Response) (x : Response) → changed_after r (ts ++ x ∷ []) ≡ changed_after r ts ++ (if is_new (last_or (Some r) ts) x then x ∷ [] else [])
changed_after-push r [] x = changed_after-one r x (same r x) refl
changed_after-push r (t ∷ ts) x = changed_after-push-cons r t ts (if is_new (last_or (Some t) ts) x then x ∷ [] else []) x (same r t) refl (changed_after-push t ts x)

pub changed-push : (rs : List Response) (x : Response) → changed (rs ++ x ∷ []) ≡ changed rs ++ (if is_new (last_of rs) x then x ∷ [] else [])
changed-push [] x = refl
changed-push (r ∷ rs) x = ap (λ (u : List Response). r ∷ u) (changed_after-push r rs x)

pub best_try-push : (b : Behaviour) (q : Question) (tries : List Response) (r : Response) → best_try b q (tries ++ r ∷ []) ≡ int_max (best_try b q tries) (grade q r -ℤ pos (length tries) *ℤ penalty_under b q)
best_try-push b q tries r =
    let worth : ℕ × Response → ℤ = λ (t : ℕ × Response). grade q t.1 -ℤ pos t.0 *ℤ penalty_under b q in
    let count : 0 + length tries ≡ length tries = omega arith in
    ap (λ (ts : List (ℕ × Response)). fold int_max (pos 0) (map worth ts)) (enumerate-append 0 tries (r ∷ []))
    ∙ ap (fold int_max (pos 0)) (map-append worth (enumerate_from 0 tries) (enumerate_from (0 + length tries) (r ∷ [])))
    ∙ fold-append int_max (pos 0) (map worth (enumerate_from 0 tries)) (map worth (enumerate_from (0 + length tries) (r ∷ [])))
    ∙ ap (λ (n : ℕ). int_max (best_try b q tries) (grade q r -ℤ pos n *ℤ penalty_under b q)) count

-- ---- the outcome, under both behaviours

abbrev adaptive_outcome : Behaviour → Question → List Step → Outcome
adaptive_outcome b q s = record { state = adaptive_state b q s; fraction = (adaptive b q s).1; ended = has_finish s; needs_again = false; tries = length (adaptive_tries b q s) }

pub outcome_is : (b : Behaviour) (q : Question) (s : List Step) → is_adaptive b ≡ true → outcome b q s ≡ adaptive_outcome b q s
outcome_is Adaptive q s plays = rw or-false refl
outcome_is AdaptiveNoPenalty q s plays = rw or-false refl
outcome_is b q s plays = absurd cc

pub outcome-closed : (b : Behaviour) (q : Question) (s : List Step) (x : Step) → is_adaptive b ≡ true → has_finish s ≡ true → outcome b q (s ++ x ∷ []) ≡ outcome b q s
outcome-closed b q s x plays closed =
    let same : adaptive_outcome b q (s ++ x ∷ []) ≡ adaptive_outcome b q s = rw (before-closed s x closed, has_finish-closed s x closed, closed) refl in
    outcome_is b q (s ++ x ∷ []) plays ∙ same ∙ sym (outcome_is b q s plays)

-- a step that is no further try
pub waits : (b : Behaviour) (q : Question) (s : List Step) (x : Step) (incomplete : Bool) → is_adaptive b ≡ true → has_finish s ≡ false → is_finish x ≡ false
    → submitted_tries b q (s ++ x ∷ []) ≡ submitted_tries b q s → ends_incomplete b q (s ++ x ∷ []) ≡ incomplete
    → outcome b q (s ++ x ∷ []) ≡ record (outcome b q s) { state = if incomplete then state.Invalid else state.Todo }
waits b q s x incomplete plays still other same is =
    let open_still : has_finish (s ++ x ∷ []) ≡ false = has_finish-push s x other ∙ still in
    let no_more : nat_lt (length (submitted_tries b q s)) (length (submitted_tries b q s)) ≡ false = le-ltb (length (submitted_tries b q s)) (length (submitted_tries b q s)) (omega arith) in
    let here : adaptive_outcome b q (s ++ x ∷ []) ≡ record (adaptive_outcome b q s) { state = if incomplete then state.Invalid else state.Todo } = rw (open_still, still, is, without_last-push s x, same, no_more, and-false) refl in
    outcome_is b q (s ++ x ∷ []) plays ∙ here ∙ ap (λ (o : Outcome). record o { state = if incomplete then state.Invalid else state.Todo }) (sym (outcome_is b q s plays))

-- what the tries counted so far
best_so_far-by : (b : Behaviour) (q : Question) (tries : List Response) → unwrap_or (if nat_lt 0 (length tries) then Some (best_try b q tries) else None) (pos 0) ≡ best_try b q tries
best_so_far-by b q [] = refl
best_so_far-by b q (r ∷ rs) = let some : nat_lt 0 (length (r ∷ rs)) ≡ true = lt-ltb 0 (length (r ∷ rs)) (omega arith) in rw some refl

pub best_so_far : (b : Behaviour) (q : Question) (s : List Step) → is_adaptive b ≡ true → has_finish s ≡ false → unwrap_or (outcome b q s).fraction (pos 0) ≡ best_try b q (submitted_tries b q s)
best_so_far b q s plays still =
    let here : unwrap_or (adaptive_outcome b q s).fraction (pos 0) ≡ best_try b q (submitted_tries b q s) = rw still (best_so_far-by b q (submitted_tries b q s)) in
    ap (λ (o : Outcome). unwrap_or o.fraction (pos 0)) (outcome_is b q s plays) ∙ here

pub tries_so_far : (b : Behaviour) (q : Question) (s : List Step) → is_adaptive b ≡ true → has_finish s ≡ false → (outcome b q s).tries ≡ length (submitted_tries b q s)
tries_so_far b q s plays still =
    let here : (adaptive_outcome b q s).tries ≡ length (submitted_tries b q s) = rw still refl in
    ap (λ (o : Outcome). o.tries) (outcome_is b q s plays) ∙ here

-- ---- a complete Submit

pub submitted_tries-complete : (b : Behaviour) (q : Question) (s : List Step) (r : Response) → has_finish s ≡ false → complete_under b q r ≡ true
    → submitted_tries b q (s ++ step.Submit r ∷ []) ≡ submitted_tries b q s ++ (if is_new (last_of (handed_in b q s)) r then r ∷ [] else [])
submitted_tries-complete b q s r still whole = ap changed (handed_in-complete b q s r still whole) ∙ changed-push (handed_in b q s) r

right-option : (o : Option Response) (r : Response) (b : Bool) → is_some (option_or o (if b then Some r else None)) ≡ (is_some o || b)
right-option None r true = refl
right-option None r false = refl
right-option (Some t) r b = refl

pub right-push : (q : Question) (tries : List Response) (r : Response) → is_some (find (λ t. is_right (grade q t)) (tries ++ r ∷ [])) ≡ (is_some (find (λ t. is_right (grade q t)) tries) || is_right (grade q r))
right-push q tries r =
    ap (λ (o : Option Response). is_some o) (find-append (λ t. is_right (grade q t)) tries (r ∷ []))
    ∙ right-option (find (λ t. is_right (grade q t)) tries) r (is_right (grade q r))

-- the same response again is no try
pub repeats : (b : Behaviour) (q : Question) (s : List Step) (r : Response) → is_adaptive b ≡ true → has_finish s ≡ false → complete_under b q r ≡ true → is_new (last_of (handed_in b q s)) r ≡ false
    → outcome b q (s ++ step.Submit r ∷ []) ≡ record (outcome b q s) { state = state.Todo }
repeats b q s r plays still whole again =
    let same_tries : submitted_tries b q (s ++ step.Submit r ∷ []) ≡ submitted_tries b q s = submitted_tries-complete b q s r still whole ∙ rw again (append-nil (submitted_tries b q s)) in
    let no_part : ends_incomplete b q (s ++ step.Submit r ∷ []) ≡ false = ends_in_submit-push (λ (t : Response). not (complete_under b q t)) s (step.Submit r) ∙ ap not whole in
    waits b q s (step.Submit r) false plays still refl same_tries no_part

tries_again-here : (b : Behaviour) (q : Question) (s : List Step) (r : Response) → has_finish s ≡ false → complete_under b q r ≡ true → is_new (last_of (handed_in b q s)) r ≡ true
    → adaptive_outcome b q (s ++ step.Submit r ∷ []) ≡ record { state = if is_some (find (λ t. is_right (grade q t)) (submitted_tries b q s)) || is_right (grade q r) then state.Complete else state.Todo; fraction = Some (int_max (best_try b q (submitted_tries b q s)) (grade q r -ℤ pos (length (submitted_tries b q s)) *ℤ penalty_under b q)); ended = false; needs_again = false; tries = length (submitted_tries b q s) + 1 }
tries_again-here b q s r still whole new =
    let open_still : has_finish (s ++ step.Submit r ∷ []) ≡ false = has_finish-push s (step.Submit r) refl ∙ still in
    let more : submitted_tries b q (s ++ step.Submit r ∷ []) ≡ submitted_tries b q s ++ r ∷ [] = submitted_tries-complete b q s r still whole ∙ rw new refl in
    let whole_end : ends_complete b q (s ++ step.Submit r ∷ []) ≡ true = ends_in_submit-push (complete_under b q) s (step.Submit r) ∙ whole in
    let no_part : ends_incomplete b q (s ++ step.Submit r ∷ []) ≡ false = ends_in_submit-push (λ (t : Response). not (complete_under b q t)) s (step.Submit r) ∙ ap not whole in
    let one_more : length (submitted_tries b q s ++ r ∷ []) ≡ length (submitted_tries b q s) + 1 = length-append (submitted_tries b q s) (r ∷ []) in
    let longer : nat_lt (length (submitted_tries b q s)) (length (submitted_tries b q s) + 1) ≡ true = lt-ltb (length (submitted_tries b q s)) (length (submitted_tries b q s) + 1) (omega arith) in
    let some : nat_lt 0 (length (submitted_tries b q s) + 1) ≡ true = lt-ltb 0 (length (submitted_tries b q s) + 1) (omega arith) in
    rw (open_still, whole_end, no_part, without_last-push s (step.Submit r), more, one_more, longer, some, right-push q (submitted_tries b q s) r, best_try-push b q (submitted_tries b q s) r) refl

pub tries_again : (b : Behaviour) (q : Question) (s : List Step) (r : Response) → is_adaptive b ≡ true → has_finish s ≡ false → complete_under b q r ≡ true → is_new (last_of (handed_in b q s)) r ≡ true
    → outcome b q (s ++ step.Submit r ∷ []) ≡ record { state = if is_some (find (λ t. is_right (grade q t)) (submitted_tries b q s)) || is_right (grade q r) then state.Complete else state.Todo; fraction = Some (int_max (unwrap_or (outcome b q s).fraction (pos 0)) (grade q r -ℤ pos (outcome b q s).tries *ℤ penalty_under b q)); ended = false; needs_again = false; tries = (outcome b q s).tries + 1 }
tries_again b q s r plays still whole new =
    outcome_is b q (s ++ step.Submit r ∷ []) plays ∙ tries_again-here b q s r still whole new ∙ rw (best_so_far b q s plays still, tries_so_far b q s plays still) refl

-- ---- the Finish

further_is : (b : Behaviour) (q : Question) (s : List Step) → further q (submitted_tries b q s) (last s) ≡ (if gradable q (last s) && is_new (last_of (handed_in b q s)) (last s) then last s ∷ [] else [])
further_is b q s = ap (λ (o : Option Response). if gradable q (last s) && is_new o (last s) then last s ∷ [] else []) (last_of-changed (handed_in b q s))

-- no further try: the best so far stays
rests-here : (b : Behaviour) (q : Question) (s : List Step) → has_finish s ≡ false → (gradable q (last s) && is_new (last_of (handed_in b q s)) (last s)) ≡ false
    → adaptive_outcome b q (s ++ step.Finish ∷ []) ≡ record { state = if gradable q (last s) then graded (grade q (last s)) else state.GaveUp; fraction = Some (best_try b q (submitted_tries b q s)); ended = true; needs_again = false; tries = length (submitted_tries b q s) }
rests-here b q s still no_further =
    let none : further q (submitted_tries b q s) (last s) ≡ [] = further_is b q s ∙ rw no_further refl in
    rw (has_finish-finished s, before-finished s, none, append-nil (submitted_tries b q s)) refl

pub rests : (b : Behaviour) (q : Question) (s : List Step) → is_adaptive b ≡ true → has_finish s ≡ false → (gradable q (last s) && is_new (last_of (handed_in b q s)) (last s)) ≡ false
    → outcome b q (s ++ step.Finish ∷ []) ≡ record { state = if gradable q (last s) then graded (grade q (last s)) else state.GaveUp; fraction = Some (unwrap_or (outcome b q s).fraction (pos 0)); ended = true; needs_again = false; tries = (outcome b q s).tries }
rests b q s plays still no_further =
    outcome_is b q (s ++ step.Finish ∷ []) plays ∙ rests-here b q s still no_further ∙ rw (best_so_far b q s plays still, tries_so_far b q s plays still) refl

-- the last response is a further try
tries_last-here : (b : Behaviour) (q : Question) (s : List Step) → has_finish s ≡ false → gradable q (last s) ≡ true → is_new (last_of (handed_in b q s)) (last s) ≡ true
    → adaptive_outcome b q (s ++ step.Finish ∷ []) ≡ record { state = graded (grade q (last s)); fraction = Some (int_max (best_try b q (submitted_tries b q s)) (grade q (last s) -ℤ pos (length (submitted_tries b q s)) *ℤ penalty_under b q)); ended = true; needs_again = false; tries = length (submitted_tries b q s) + 1 }
tries_last-here b q s still can new =
    let one : further q (submitted_tries b q s) (last s) ≡ last s ∷ [] = further_is b q s ∙ rw (can, new) refl in
    rw (has_finish-finished s, before-finished s, one, can, length-append (submitted_tries b q s) (last s ∷ []), best_try-push b q (submitted_tries b q s) (last s)) refl

pub tries_last : (b : Behaviour) (q : Question) (s : List Step) → is_adaptive b ≡ true → has_finish s ≡ false → gradable q (last s) ≡ true → is_new (last_of (handed_in b q s)) (last s) ≡ true
    → outcome b q (s ++ step.Finish ∷ []) ≡ record { state = graded (grade q (last s)); fraction = Some (int_max (unwrap_or (outcome b q s).fraction (pos 0)) (grade q (last s) -ℤ pos (outcome b q s).tries *ℤ penalty_under b q)); ended = true; needs_again = false; tries = (outcome b q s).tries + 1 }
tries_last b q s plays still can new =
    outcome_is b q (s ++ step.Finish ∷ []) plays ∙ tries_last-here b q s still can new ∙ rw (best_so_far b q s plays still, tries_so_far b q s plays still) refl

-- ---- the same, for an outcome that is known to be that of the list

pub finish_gives_up : (o : Outcome) (b : Behaviour) (q : Question) (s : List Step) → is_adaptive b ≡ true → has_finish s ≡ false → o ≡ outcome b q s → None ≡ gradable_last q s
    → record { state = state.GaveUp; fraction = Some (unwrap_or o.fraction (pos 0)); ended = true; needs_again = false; tries = o.tries } ≡ outcome b q (s ++ step.Finish ∷ [])
finish_gives_up o b q s plays still is none =
    let cannot : gradable q (last s) ≡ false = gradable_last-none q s none in
    let final = rests b q s plays still (ap (λ (v : Bool). v && is_new (last_of (handed_in b q s)) (last s)) cannot) in
    ap (λ (p : Outcome). record { state = state.GaveUp; fraction = Some (unwrap_or p.fraction (pos 0)); ended = true; needs_again = false; tries = p.tries }) is
    ∙ ap (λ (v : Bool). record { state = if v then graded (grade q (last s)) else state.GaveUp; fraction = Some (unwrap_or (outcome b q s).fraction (pos 0)); ended = true; needs_again = false; tries = (outcome b q s).tries }) (sym cannot)
    ∙ sym final

pub finish_same : (o : Outcome) (b : Behaviour) (q : Question) (s : List Step) (r : Response) → is_adaptive b ≡ true → has_finish s ≡ false → o ≡ outcome b q s → Some r ≡ gradable_last q s → is_new (last_of (handed_in b q s)) r ≡ false
    → record { state = graded (grade q r); fraction = Some (unwrap_or o.fraction (pos 0)); ended = true; needs_again = false; tries = o.tries } ≡ outcome b q (s ++ step.Finish ∷ [])
finish_same o b q s r plays still is some again =
    let last_is = gradable_last-some q s r some in
    let final = rests b q s plays still (ap (λ (v : Bool). v && is_new (last_of (handed_in b q s)) (last s)) last_is.0 ∙ ap (is_new (last_of (handed_in b q s))) (sym last_is.1) ∙ again) in
    ap (λ (p : Outcome). record { state = graded (grade q r); fraction = Some (unwrap_or p.fraction (pos 0)); ended = true; needs_again = false; tries = p.tries }) is
    ∙ ap (λ (t : Response). record { state = graded (grade q t); fraction = Some (unwrap_or (outcome b q s).fraction (pos 0)); ended = true; needs_again = false; tries = (outcome b q s).tries }) last_is.1
    ∙ ap (λ (v : Bool). record { state = if v then graded (grade q (last s)) else state.GaveUp; fraction = Some (unwrap_or (outcome b q s).fraction (pos 0)); ended = true; needs_again = false; tries = (outcome b q s).tries }) (sym last_is.0)
    ∙ sym final

pub finish_further : (o : Outcome) (b : Behaviour) (q : Question) (s : List Step) (r : Response) → is_adaptive b ≡ true → has_finish s ≡ false → o ≡ outcome b q s → Some r ≡ gradable_last q s → is_new (last_of (handed_in b q s)) r ≡ true
    → record { state = graded (grade q r); fraction = Some (int_max (unwrap_or o.fraction (pos 0)) (grade q r -ℤ pos o.tries *ℤ penalty_under b q)); ended = true; needs_again = false; tries = o.tries + 1 } ≡ outcome b q (s ++ step.Finish ∷ [])
finish_further o b q s r plays still is some new =
    let last_is = gradable_last-some q s r some in
    ap (λ (p : Outcome). record { state = graded (grade q r); fraction = Some (int_max (unwrap_or p.fraction (pos 0)) (grade q r -ℤ pos p.tries *ℤ penalty_under b q)); ended = true; needs_again = false; tries = p.tries + 1 }) is
    ∙ ap (λ (t : Response). record { state = graded (grade q t); fraction = Some (int_max (unwrap_or (outcome b q s).fraction (pos 0)) (grade q t -ℤ pos (outcome b q s).tries *ℤ penalty_under b q)); ended = true; needs_again = false; tries = (outcome b q s).tries + 1 }) last_is.1
    ∙ sym (tries_last b q s plays still last_is.0 (ap (is_new (last_of (handed_in b q s))) (sym last_is.1) ∙ new))

pub try_more : (o : Outcome) (b : Behaviour) (q : Question) (s : List Step) (r : Response) → is_adaptive b ≡ true → has_finish s ≡ false → o ≡ outcome b q s → complete_under b q r ≡ true → is_new (last_of (handed_in b q s)) r ≡ true
    → (right : Bool) → right ≡ (is_some (find (λ t. is_right (grade q t)) (submitted_tries b q s)) || is_right (grade q r))
    → record { state = if right then state.Complete else state.Todo; fraction = Some (int_max (unwrap_or o.fraction (pos 0)) (grade q r -ℤ pos o.tries *ℤ penalty_under b q)); ended = false; needs_again = false; tries = o.tries + 1 } ≡ outcome b q (s ++ step.Submit r ∷ [])
try_more o b q s r plays still is whole new right right_is =
    ap (λ (p : Outcome). record { state = if right then state.Complete else state.Todo; fraction = Some (int_max (unwrap_or p.fraction (pos 0)) (grade q r -ℤ pos p.tries *ℤ penalty_under b q)); ended = false; needs_again = false; tries = p.tries + 1 }) is
    ∙ ap (λ (v : Bool). record { state = if v then state.Complete else state.Todo; fraction = Some (int_max (unwrap_or (outcome b q s).fraction (pos 0)) (grade q r -ℤ pos (outcome b q s).tries *ℤ penalty_under b q)); ended = false; needs_again = false; tries = (outcome b q s).tries + 1 }) right_is
    ∙ sym (tries_again b q s r plays still whole new)
