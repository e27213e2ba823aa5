-- A response that is saved behind the end of a slot changes nothing that is shown.
use Rattle.std.proofs.Common.{◌≡◌, Bool, true, false, ◌||◌, ◌⊎◌, inl, inr, List, [], ◌∷◌, ◌++◌, Option, Some, None, refl, ap, ◌∙◌}
use Rattle.std.specs.Prelude.{ℤ, filter_map, option_map, unwrap_or, is_some}
use Rattle.std.proofs.lemmas.List.Folds.{list_any-append}
use Rattle.qz_decimal.specs.Numbers.{mark_of, rescale, fraction_of}
use Rattle.qz_grading.specs.declared.outcome.Behaviour.{Behaviour}
use Rattle.qz_grading.specs.declared.outcome.Behaviour.TheVariants as behaviour
use Rattle.qz_grading.specs.declared.question.Question.{Question}
use Rattle.qz_grading.specs.declared.response.Response.{Response}
use Rattle.qz_grading.specs.declared.response.Step.{Step}
use Rattle.qz_grading.specs.declared.response.Step.TheVariants as step
use Rattle.qz_grading.specs.Behaviours.{standing, has_ended, first_handed_in, immediate, interactive, by_grade, tried, marked, ending_try}
use Rattle.qz_grading.specs.Slots.{last_given}
use Rattle.qz_grading.specs.Steps.{is_finish, has_finish, before, last_of, given, submitted}
use Rattle.qz_terms.specs.Laws.{SaveKeepsTheEnd}
use Rattle.qz_terms.proofs.Readings.{filter_map-other}

or-true : (x y : Bool) → (x || y) ≡ true → (x ≡ true) ⊎ (y ≡ true)
or-true true y e = inl refl
or-true false y e = inr e

or-false : (x : Bool) → (x || false) ≡ true → x ≡ true
or-false true e = refl
or-false false e = absurd cc

-- where there is a value, what stands in its place doesn't count
unwrap-some : {A B : Type 0} (f : A → B) (o : Option A) (x y : B) → is_some o ≡ true → unwrap_or (option_map f o) x ≡ unwrap_or (option_map f o) y
unwrap-some f None x y e = absurd cc
unwrap-some f (Some a) x y e = refl

-- ---- behind a Finish

has_finish-behind : (s : List Step) (y : Step) → has_finish s ≡ true → has_finish (s ++ y ∷ []) ≡ true
has_finish-behind s y h = list_any-append is_finish s (y ∷ []) ∙ rw h refl

before-behind-cons : (x : Step) (s : List Step) (y : Step) (b : Bool) → is_finish x ≡ b → has_finish (x ∷ s) ≡ true → (has_finish s ≡ true → before (s ++ y ∷ []) ≡ before s) → before ((x ∷ s) ++ y ∷ []) ≡ before (x ∷ s)
before-behind-cons x s y true is h rest = rw is refl
before-behind-cons x s y false is h rest = let k = rw is at h in rw is (ap (λ (t : List Step). x ∷ t) (rest k))

before-behind : (s : List Step) (y : Step) → has_finish s ≡ true → before (s ++ y ∷ []) ≡ before s
before-behind [] y h = absurd cc
before-behind (x ∷ s) y h = before-behind-cons x s y (is_finish x) refl h (before-behind s y)

standing-behind : (b : Behaviour) (q : Question) (s : List Step) (y : Step) → has_finish s ≡ true → standing b q (s ++ y ∷ []) ≡ standing b q s
standing-behind behaviour.Deferred q s y h = rw (has_finish-behind s y h, h, before-behind s y h) refl
standing-behind behaviour.DeferredCbm q s y h = rw (has_finish-behind s y h, h, before-behind s y h) refl
standing-behind behaviour.Immediate q s y h = rw (has_finish-behind s y h, h, before-behind s y h) refl
standing-behind behaviour.ImmediateCbm q s y h = rw (has_finish-behind s y h, h, before-behind s y h) refl
standing-behind behaviour.Interactive q s y h = rw (has_finish-behind s y h, h, before-behind s y h) refl
standing-behind behaviour.Adaptive q s y h = rw (has_finish-behind s y h, h, before-behind s y h) refl
standing-behind behaviour.AdaptiveNoPenalty q s y h = rw (has_finish-behind s y h, h, before-behind s y h) refl
standing-behind behaviour.Manual q s y h = rw (has_finish-behind s y h, h, before-behind s y h) refl
standing-behind behaviour.Information q s y h = rw (has_finish-behind s y h, h) refl

-- ---- behind a try that ends the slot

submits-saved-cons : (x : Step) (s : List Step) (r : Response) (b : Bool) → is_finish x ≡ b → filter_map submitted (before (s ++ step.Save r ∷ [])) ≡ filter_map submitted (before s) → filter_map submitted (before ((x ∷ s) ++ step.Save r ∷ [])) ≡ filter_map submitted (before (x ∷ s))
submits-saved-cons x s r true is rest = rw is refl
submits-saved-cons x s r false is rest = rw (is, rest) refl

submits-saved : (s : List Step) (r : Response) → filter_map submitted (before (s ++ step.Save r ∷ [])) ≡ filter_map submitted (before s)
submits-saved [] r = refl
submits-saved (x ∷ s) r = submits-saved-cons x s r (is_finish x) refl (submits-saved s r)

immediate-saved : (b : Behaviour) (q : Question) (s : List Step) (r : Response) → is_some (first_handed_in b q s) ≡ true → immediate b q (s ++ step.Save r ∷ []) ≡ immediate b q s
immediate-saved b q s r e = rw (submits-saved s r) (unwrap-some (by_grade b q) (first_handed_in b q s) _ _ e)

interactive-saved : (b : Behaviour) (q : Question) (s : List Step) (r : Response) → is_some (ending_try b q s) ≡ true → interactive b q (s ++ step.Save r ∷ []) ≡ interactive b q s
interactive-saved b q s r e = rw (submits-saved s r) (unwrap-some (tried q) (ending_try b q s) _ _ e)

-- ---- the end

standing-saved : (b : Behaviour) (q : Question) (s : List Step) (r : Response) → has_ended b q s ≡ true → standing b q (s ++ step.Save r ∷ []) ≡ standing b q s
standing-saved behaviour.Deferred q s r e = standing-behind behaviour.Deferred q s (step.Save r) (or-false (has_finish s) e)
standing-saved behaviour.DeferredCbm q s r e = standing-behind behaviour.DeferredCbm q s (step.Save r) (or-false (has_finish s) e)
standing-saved behaviour.Immediate q s r e = elim (or-true (has_finish s) (is_some (first_handed_in behaviour.Immediate q s)) e) [ inl h ↦ standing-behind behaviour.Immediate q s (step.Save r) h | inr t ↦ immediate-saved behaviour.Immediate q s r t ]
standing-saved behaviour.ImmediateCbm q s r e = elim (or-true (has_finish s) (is_some (first_handed_in behaviour.ImmediateCbm q s)) e) [ inl h ↦ standing-behind behaviour.ImmediateCbm q s (step.Save r) h | inr t ↦ immediate-saved behaviour.ImmediateCbm q s r t ]
standing-saved behaviour.Interactive q s r e = elim (or-true (has_finish s) (is_some (ending_try behaviour.Interactive q s)) e) [ inl h ↦ standing-behind behaviour.Interactive q s (step.Save r) h | inr t ↦ interactive-saved behaviour.Interactive q s r t ]
standing-saved behaviour.Adaptive q s r e = standing-behind behaviour.Adaptive q s (step.Save r) (or-false (has_finish s) e)
standing-saved behaviour.AdaptiveNoPenalty q s r e = standing-behind behaviour.AdaptiveNoPenalty q s (step.Save r) (or-false (has_finish s) e)
standing-saved behaviour.Manual q s r e = standing-behind behaviour.Manual q s (step.Save r) (or-false (has_finish s) e)
standing-saved behaviour.Information q s r e = standing-behind behaviour.Information q s (step.Save r) (or-false (has_finish s) e)

given-saved : (s : List Step) (r : Response) → last_given (s ++ step.Save r ∷ []) ≡ last_given s
given-saved s r = ap last_of (filter_map-other given s (step.Save r) refl)

pub saving_law : SaveKeepsTheEnd
saving_law = record {
  mark = λ b q max s r e. λ i. unwrap_or (option_map (λ (m : ℤ × ℤ). Some (rescale m.0 m.1 max)) (given-saved s r i)) (option_map (λ f. mark_of f max) (standing-saved b q s r e i).1);
  state = λ b q s r e. λ i. unwrap_or (option_map (λ (m : ℤ × ℤ). marked (fraction_of m.0 m.1)) (given-saved s r i)) (standing-saved b q s r e i).0;
}
