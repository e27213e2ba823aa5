-- Counts over a list of steps with one more at its end.
use Rattle.std.proofs.Common.{◌≡◌, ℕ, ◌+◌, ◌<◌, ◌≤◌, Bool, true, false, ◌||◌, List, [], ◌∷◌, ◌++◌, length, Option, Some, None, refl, ap, ◌∙◌, arith, length-append, append-nil}
use Rattle.std.specs.Prelude.{if◌then◌else◌, filter, filter_map, ℤ, IfSome, nat_le}
use Rattle.std.proofs.lemmas.Bool.Decides.{nat_tests}
use Rattle.std.specs.Int.{from_bool}
use Rattle.std.specs.Option.{option_or}
use Rattle.std.proofs.lemmas.List.Elements.{filter-append, filter_map-append}
use Rattle.qz_grading.specs.declared.limits.TheConstants.{MOST_ANSWERING, MOST_MARKS}
use Rattle.qz_grading.specs.declared.refusal.Refusal.{Refusal}
use Rattle.qz_grading.specs.declared.refusal.Refusal.TheVariants as refusal
use Rattle.qz_grading.specs.declared.response.Step.{Step}
use Rattle.qz_grading.specs.declared.response.Step.TheVariants as step
use Rattle.qz_grading.specs.Steps.{is_answering, is_finish, is_mark, has_finish, given, last_of}
use Rattle.qz_grading.specs.Behaviours.{first_some, when}
use Rattle.qz_grading.specs.Slots.{last_given, is_full_for}
use Rattle.qz_grading.proofs.StepLemmas.{last_of-push, has_finish-more}
use Rattle.qz_usage.specs.Runs.{IsGiven, IsWithinLimits}

one_more : {A : Type 0} (p : A → Bool) (x : A) (b : Bool) → p x ≡ b → length (filter p (x ∷ [])) ≡ (if b then 1 else 0)
one_more p x true is = rw is refl
one_more p x false is = rw is refl

pub count-push : {A : Type 0} (p : A → Bool) (xs : List A) (x : A) → length (filter p (xs ++ x ∷ [])) ≡ length (filter p xs) + (if p x then 1 else 0)
count-push p xs x = ap length (filter-append p xs (x ∷ [])) ∙ length-append (filter p xs) (filter p (x ∷ [])) ∙ ap (λ (n : ℕ). length (filter p xs) + n) (one_more p x (p x) refl)

-- a count that is kept beside a list of steps
pub counted_more : (p : Step → Bool) (items s : List Step) (x : Step) (had n : ℕ) (b : Bool) → items ≡ s ++ x ∷ [] → had ≡ length (filter p s) → b ≡ p x → n ≡ from_bool b → had + n ≡ length (filter p items)
counted_more p items s x had n true longer before is one = rw (longer, count-push p s x, ← is, before, one) refl
counted_more p items s x had n false longer before is none = rw (longer, count-push p s x, ← is, before, none) refl

-- each step is of one kind
pub length-by_kind : (s : List Step) → length s ≡ length (filter is_answering s) + (length (filter is_mark s) + length (filter is_finish s))
length-by_kind [] = refl
length-by_kind (step.Save r ∷ s) = omega (arith, length-by_kind s)
length-by_kind (step.Submit r ∷ s) = omega (arith, length-by_kind s)
length-by_kind (step.Again ∷ s) = omega (arith, length-by_kind s)
length-by_kind (step.Finish ∷ s) = omega (arith, length-by_kind s)
length-by_kind (step.Mark m max ∷ s) = omega (arith, length-by_kind s)

-- a slot has no more than 11,001 steps
pub few : (s : List Step) → IsWithinLimits s → length s ≤ 11001
few s h = omega (arith, length-by_kind s, h.answering, h.marks, h.finishes)

pub finished_more : (items s : List Step) (x : Step) (had b : Bool) → items ≡ s ++ x ∷ [] → had ≡ has_finish s → b ≡ is_finish x → (had || b) ≡ has_finish items
finished_more items s x had b longer before is = rw (longer, has_finish-more s x, before, is) refl

-- before the first Finish there is none
finishes-none : (s : List Step) → has_finish s ≡ false → length (filter is_finish s) ≡ 0
finishes-none [] none = refl
finishes-none (step.Save r ∷ s) none = finishes-none s none
finishes-none (step.Submit r ∷ s) none = finishes-none s none
finishes-none (step.Again ∷ s) none = finishes-none s none
finishes-none (step.Finish ∷ s) none = absurd cc
finishes-none (step.Mark m max ∷ s) none = finishes-none s none

given-one : (x : Step) (o : Option (ℤ × ℤ)) → given x ≡ o → (s : List Step) → last_given (s ++ x ∷ []) ≡ option_or o (last_given s)
given-one x None is s =
    let no_more : filter_map given (x ∷ []) ≡ [] = rw is refl in
    ap last_of (filter_map-append given s (x ∷ []) ∙ ap (λ (t : List (ℤ × ℤ)). filter_map given s ++ t) no_more ∙ append-nil (filter_map given s))
given-one x (Some m) is s =
    let one : filter_map given (x ∷ []) ≡ m ∷ [] = rw is refl in
    ap last_of (filter_map-append given s (x ∷ []) ∙ ap (λ (t : List (ℤ × ℤ)). filter_map given s ++ t) one)
    ∙ last_of-push None (filter_map given s) m

last_given-push : (s : List Step) (x : Step) → last_given (s ++ x ∷ []) ≡ option_or (given x) (last_given s)
last_given-push s x = given-one x (given x) refl s

pub given_more : (items s : List Step) (x : Step) (had now kept : Option (ℤ × ℤ)) → items ≡ s ++ x ∷ [] → had ≡ last_given s → now ≡ given x → kept ≡ option_or now had → kept ≡ last_given items
given_more items s x had now kept longer before is or = rw (longer, last_given-push s x, ← before, ← is) or

pub given_in_range : (now had : Option (ℤ × ℤ)) → IfSome now IsGiven → IfSome had IsGiven → IfSome (option_or now had) IsGiven
given_in_range None had new old = old
given_in_range (Some m) had new old = new

-- ---- limits

pub first_none : (o : Option Refusal) (os : List (Option Refusal)) → first_some (o ∷ os) ≡ None → (o ≡ None) × (first_some os ≡ None)
first_none None os h = (refl, h)
first_none (Some r) os h = absurd cc

pub when_none : (condition : Bool) (r : Refusal) → when condition r ≡ None → condition ≡ false
when_none true r h = absurd cc
when_none false r h = refl

below : (most n : ℕ) → nat_le most n ≡ false → n < most
below most n h = grind (arith, nat_tests)

-- a list with one more step that is neither over a limit nor a second finish
pub limits_more : (s : List Step) (x : Step) → IsWithinLimits s → is_full_for s x ≡ None → (is_finish x ≡ true → has_finish s ≡ false) → IsWithinLimits (s ++ x ∷ [])
limits_more s (step.Save r) h room once =
    let little = below MOST_ANSWERING (length (filter is_answering s)) (when_none (nat_le MOST_ANSWERING (length (filter is_answering s))) (refusal.TooMany MOST_ANSWERING) (first_none (when (nat_le MOST_ANSWERING (length (filter is_answering s))) (refusal.TooMany MOST_ANSWERING)) (None ∷ []) room).0) in
    record {
      answering = rw (count-push is_answering s (step.Save r)) (omega arith);
      marks = rw (count-push is_mark s (step.Save r)) (omega (arith, h.marks));
      finishes = rw (count-push is_finish s (step.Save r)) (omega (arith, h.finishes));
    }
limits_more s (step.Submit r) h room once =
    let little = below MOST_ANSWERING (length (filter is_answering s)) (when_none (nat_le MOST_ANSWERING (length (filter is_answering s))) (refusal.TooMany MOST_ANSWERING) (first_none (when (nat_le MOST_ANSWERING (length (filter is_answering s))) (refusal.TooMany MOST_ANSWERING)) (None ∷ []) room).0) in
    record {
      answering = rw (count-push is_answering s (step.Submit r)) (omega arith);
      marks = rw (count-push is_mark s (step.Submit r)) (omega (arith, h.marks));
      finishes = rw (count-push is_finish s (step.Submit r)) (omega (arith, h.finishes));
    }
limits_more s step.Again h room once =
    let little = below MOST_ANSWERING (length (filter is_answering s)) (when_none (nat_le MOST_ANSWERING (length (filter is_answering s))) (refusal.TooMany MOST_ANSWERING) (first_none (when (nat_le MOST_ANSWERING (length (filter is_answering s))) (refusal.TooMany MOST_ANSWERING)) (None ∷ []) room).0) in
    record {
      answering = rw (count-push is_answering s step.Again) (omega arith);
      marks = rw (count-push is_mark s step.Again) (omega (arith, h.marks));
      finishes = rw (count-push is_finish s step.Again) (omega (arith, h.finishes));
    }
limits_more s step.Finish h room once =
    let none = finishes-none s (once refl) in
    record {
      answering = rw (count-push is_answering s step.Finish) (omega (arith, h.answering));
      marks = rw (count-push is_mark s step.Finish) (omega (arith, h.marks));
      finishes = rw (count-push is_finish s step.Finish) (omega arith);
    }
limits_more s (step.Mark m max) h room once =
    let little = below MOST_MARKS (length (filter is_mark s)) (when_none (nat_le MOST_MARKS (length (filter is_mark s))) (refusal.TooMany MOST_MARKS) (first_none (when (nat_le MOST_MARKS (length (filter is_mark s))) (refusal.TooMany MOST_MARKS)) [] room).0) in
    record {
      answering = rw (count-push is_answering s (step.Mark m max)) (omega (arith, h.answering));
      marks = rw (count-push is_mark s (step.Mark m max)) (omega arith);
      finishes = rw (count-push is_finish s (step.Mark m max)) (omega (arith, h.finishes));
    }
