-- Readings of a list of steps with one more at its end.
use Rattle.std.proofs.Common.{◌≡◌, ℕ, zero, suc, ◌-◌, ◌<◌, Bool, true, false, ◌||◌, List, [], ◌∷◌, ◌++◌, length, Option, Some, None, IfSome, refl, ap, ◌∙◌, arith, append-nil}
use Rattle.std.specs.Prelude.{filter, filter_map, unwrap_or, option_map, option_and_then, slice_get}
use Rattle.std.specs.List.{last_or}
use Rattle.std.proofs.lemmas.List.{length-append}
use Rattle.std.proofs.lemmas.List.Folds.{list_any-append}
use Rattle.std.proofs.lemmas.List.Elements.{filter-append, filter_map-append}
use Rattle.qz_grading.specs.declared.outcome.Behaviour.{Behaviour}
use Rattle.qz_grading.specs.declared.question.Question.{Question}
use Rattle.qz_grading.specs.declared.response.Response.{Response}
use Rattle.qz_grading.specs.declared.response.Step.{Step}
use Rattle.qz_grading.specs.declared.response.Step.TheVariants as step
use Rattle.qz_grading.specs.Grading.{blank}
use Rattle.qz_grading.specs.Steps.{is_finish, has_finish, before, last, last_of, response_of, submitted, step_at, response_at}
use Rattle.qz_grading.specs.Behaviours.{complete_under, handed_in, ends_in_submit}

pub or-false : (b : Bool) → (b || false) ≡ b
or-false true = refl
or-false false = refl

pub or-true : (b : Bool) → (b || true) ≡ true
or-true true = refl
or-true false = refl

-- ---- the last of a list, and its places

pub last_of-push : {A : Type 0} (o : Option A) (xs : List A) (x : A) → last_or o (xs ++ x ∷ []) ≡ Some x
last_of-push o [] x = refl
last_of-push o (y ∷ ys) x = last_of-push (Some y) ys x

last_read-cons : {A : Type 0} (x : A) (xs : List A) → slice_get (x ∷ xs) (length xs) ≡ last_or (Some x) xs
last_read-cons x [] = refl
last_read-cons x (y ∷ ys) = last_read-cons y ys

pub last_read : {A : Type 0} (xs : List A) → slice_get xs (length xs - 1) ≡ last_of xs
last_read [] = refl
last_read (x ∷ xs) = let before_it : length (x ∷ xs) - 1 ≡ length xs = omega arith in rw before_it (last_read-cons x xs)

pub slice_get-push : {A : Type 0} (xs : List A) (x : A) → slice_get (xs ++ x ∷ []) (length xs) ≡ Some x
slice_get-push [] x = refl
slice_get-push (y ∷ ys) x = slice_get-push ys x

slice_get-kept : {A : Type 0} (xs : List A) (x : A) (i : ℕ) → i < length xs → slice_get (xs ++ x ∷ []) i ≡ slice_get xs i
slice_get-kept [] x i lt = absurd (omega arith)
slice_get-kept (y ∷ ys) x zero lt = refl
slice_get-kept (y ∷ ys) x (suc i) lt = slice_get-kept ys x i (omega arith)

pub inside-more : (place : Option ℕ) (s : List Step) (x : Step) → IfSome place (λ i. i < length s) → IfSome place (λ i. i < length (s ++ x ∷ []))
inside-more None s x inside = tt
inside-more (Some i) s x inside = omega (arith, length-append s (x ∷ []))

-- what stood at a place stays there
pub step_at-kept : (place : Option ℕ) (s : List Step) (x : Step) → IfSome place (λ i. i < length s) → step_at (s ++ x ∷ []) place ≡ step_at s place
step_at-kept None s x inside = refl
step_at-kept (Some i) s x inside = slice_get-kept s x i inside

pub response_at-kept : (place : Option ℕ) (s : List Step) (x : Step) → IfSome place (λ i. i < length s) → response_at (s ++ x ∷ []) place ≡ response_at s place
response_at-kept place s x inside = ap (λ (o : Option Step). unwrap_or (option_and_then response_of o) blank) (step_at-kept place s x inside)

-- ---- Finish

pub has_finish-more : (s : List Step) (x : Step) → has_finish (s ++ x ∷ []) ≡ (has_finish s || is_finish x)
has_finish-more s x = list_any-append is_finish s (x ∷ []) ∙ ap (λ (b : Bool). has_finish s || b) (or-false (is_finish x))

pub has_finish-push : (s : List Step) (x : Step) → is_finish x ≡ false → has_finish (s ++ x ∷ []) ≡ has_finish s
has_finish-push s x other = has_finish-more s x ∙ rw other (or-false (has_finish s))

pub has_finish-finished : (s : List Step) → has_finish (s ++ step.Finish ∷ []) ≡ true
has_finish-finished s = has_finish-more s step.Finish ∙ or-true (has_finish s)

pub has_finish-closed : (s : List Step) (x : Step) → has_finish s ≡ true → has_finish (s ++ x ∷ []) ≡ true
has_finish-closed s x closed = has_finish-more s x ∙ rw closed refl

-- ---- the steps before a Finish

-- where there is no Finish, all steps come before it
before-open-cons : (x : Step) (s : List Step) (b : Bool) → is_finish x ≡ b → has_finish (x ∷ s) ≡ false → (has_finish s ≡ false → before s ≡ s) → before (x ∷ s) ≡ x ∷ s
before-open-cons x s true finish none rest = let h = rw finish at none in absurd cc
before-open-cons x s false other none rest = let h = rw other at none in rw other (ap (λ (t : List Step). x ∷ t) (rest h))

pub before-open : (s : List Step) → has_finish s ≡ false → before s ≡ s
before-open [] none = refl
before-open (x ∷ s) none = before-open-cons x s (is_finish x) refl none (before-open s)

before-finished-cons : (x : Step) (s : List Step) (b : Bool) → is_finish x ≡ b → before (s ++ step.Finish ∷ []) ≡ before s → before ((x ∷ s) ++ step.Finish ∷ []) ≡ before (x ∷ s)
before-finished-cons x s true finish rest = rw finish refl
before-finished-cons x s false other rest = rw other (ap (λ (t : List Step). x ∷ t) rest)

pub before-finished : (s : List Step) → before (s ++ step.Finish ∷ []) ≡ before s
before-finished [] = refl
before-finished (x ∷ s) = before-finished-cons x s (is_finish x) refl (before-finished s)

before-closed-cons : (y : Step) (s : List Step) (x : Step) (b : Bool) → is_finish y ≡ b → has_finish (y ∷ s) ≡ true
    → (has_finish s ≡ true → before (s ++ x ∷ []) ≡ before s) → before ((y ∷ s) ++ x ∷ []) ≡ before (y ∷ s)
before-closed-cons y s x true finish closed rest = rw finish refl
before-closed-cons y s x false other closed rest = let h = rw other at closed in rw other (ap (λ (t : List Step). y ∷ t) (rest h))

pub before-closed : (s : List Step) (x : Step) → has_finish s ≡ true → before (s ++ x ∷ []) ≡ before s
before-closed [] x closed = absurd cc
before-closed (y ∷ s) x closed = before-closed-cons y s x (is_finish y) refl closed (before-closed s x)

before-push : (s : List Step) (x : Step) → has_finish s ≡ false → is_finish x ≡ false → before (s ++ x ∷ []) ≡ before s ++ x ∷ []
before-push s x none other = rw (before-open s none) (before-open (s ++ x ∷ []) (has_finish-push s x other ∙ none))

-- ---- the last response

pub last-finished : (s : List Step) → last (s ++ step.Finish ∷ []) ≡ last s
last-finished s = ap (λ (t : List Step). unwrap_or (last_of (filter_map response_of t)) blank) (before-finished s)

pub last-closed : (s : List Step) (x : Step) → has_finish s ≡ true → last (s ++ x ∷ []) ≡ last s
last-closed s x closed = ap (λ (t : List Step). unwrap_or (last_of (filter_map response_of t)) blank) (before-closed s x closed)

module _ (s : List Step) (x : Step) (none : has_finish s ≡ false) (other : is_finish x ≡ false) where
  read-push : {A : Type 0} (f : Step → Option A) → filter_map f (before (s ++ x ∷ [])) ≡ filter_map f (before s) ++ filter_map f (x ∷ [])
  read-push f = ap (filter_map f) (before-push s x none other) ∙ filter_map-append f (before s) (x ∷ [])

  pub last-answered : (r : Response) → response_of x ≡ Some r → last (s ++ x ∷ []) ≡ r
  last-answered r is =
      let one : filter_map response_of (x ∷ []) ≡ r ∷ [] = rw is refl in
      ap (λ (t : List Response). unwrap_or (last_of t) blank) (read-push response_of ∙ ap (λ (t : List Response). filter_map response_of (before s) ++ t) one)
      ∙ ap (λ (o : Option Response). unwrap_or o blank) (last_of-push None (filter_map response_of (before s)) r)

  pub last-passed : response_of x ≡ None → last (s ++ x ∷ []) ≡ last s
  last-passed is =
      let no_more : filter_map response_of (x ∷ []) ≡ [] = rw is refl in
      ap (λ (t : List Response). unwrap_or (last_of t) blank)
      (read-push response_of ∙ ap (λ (t : List Response). filter_map response_of (before s) ++ t) no_more ∙ append-nil (filter_map response_of (before s)))

-- ---- the complete Submits

module _ (b : Behaviour) (q : Question) (s : List Step) where
  pub handed_in-closed : (x : Step) → has_finish s ≡ true → handed_in b q (s ++ x ∷ []) ≡ handed_in b q s
  handed_in-closed x closed = ap (λ (t : List Step). filter (complete_under b q) (filter_map submitted t)) (before-closed s x closed)

  pub handed_in-finished : handed_in b q (s ++ step.Finish ∷ []) ≡ handed_in b q s
  handed_in-finished = ap (λ (t : List Step). filter (complete_under b q) (filter_map submitted t)) (before-finished s)

  pub handed_in-passed : (x : Step) → has_finish s ≡ false → is_finish x ≡ false → submitted x ≡ None → handed_in b q (s ++ x ∷ []) ≡ handed_in b q s
  handed_in-passed x none other is =
      let no_more : filter_map submitted (x ∷ []) ≡ [] = rw is refl in
      ap (filter (complete_under b q))
      (read-push s x none other submitted ∙ ap (λ (t : List Response). filter_map submitted (before s) ++ t) no_more ∙ append-nil (filter_map submitted (before s)))

  submitted-push : (r : Response) → has_finish s ≡ false → handed_in b q (s ++ step.Submit r ∷ []) ≡ handed_in b q s ++ filter (complete_under b q) (r ∷ [])
  submitted-push r none =
      ap (filter (complete_under b q)) (read-push s (step.Submit r) none refl submitted)
      ∙ filter-append (complete_under b q) (filter_map submitted (before s)) (r ∷ [])

  pub handed_in-complete : (r : Response) → has_finish s ≡ false → complete_under b q r ≡ true → handed_in b q (s ++ step.Submit r ∷ []) ≡ handed_in b q s ++ r ∷ []
  handed_in-complete r none complete =
      let one : filter (complete_under b q) (r ∷ []) ≡ r ∷ [] = rw complete refl in
      submitted-push r none ∙ ap (λ (t : List Response). handed_in b q s ++ t) one

  pub handed_in-incomplete : (r : Response) → has_finish s ≡ false → complete_under b q r ≡ false → handed_in b q (s ++ step.Submit r ∷ []) ≡ handed_in b q s
  handed_in-incomplete r none incomplete =
      let no_more : filter (complete_under b q) (r ∷ []) ≡ [] = rw incomplete refl in
      submitted-push r none ∙ ap (λ (t : List Response). handed_in b q s ++ t) no_more ∙ append-nil (handed_in b q s)

-- only the last step counts
pub ends_in_submit-push : (p : Response → Bool) (s : List Step) (x : Step) → ends_in_submit p (s ++ x ∷ []) ≡ unwrap_or (option_map p (submitted x)) false
ends_in_submit-push p s x = ap (λ (o : Option Step). unwrap_or (option_map p (unwrap_or (option_map submitted o) None)) false) (last_of-push None s x)
