-- What a list tells of an attempt once one more record stands in it.
use Rattle.std.proofs.Common.{◌≡◌, ℕ, Bool, true, false, List, [], ◌∷◌, ◌++◌, Option, Some, None, option_map, refl, sym, ap, ◌∙◌, append-nil}
use Rattle.std.specs.Prelude.{filter, filter_map, is_some, option_and_then, option_to_list}
use Rattle.std.specs.List.{list_any}
use Rattle.std.specs.Option.{option_or}
use Rattle.qz_grading.specs.declared.question.Question.{Question}
use Rattle.qz_grading.specs.declared.refusal.AttemptId.{AttemptId}
use Rattle.qz_grading.specs.declared.response.Step.{Step}
use Rattle.qz_terms.specs.declared.plan.Bound.{Bound}
use Rattle.qz_terms.specs.declared.record.How.{How}
use Rattle.qz_terms.specs.declared.record.Record.{Record}
use Rattle.qz_terms.specs.Lists.{first_of, up_to_first}
use Rattle.qz_terms.specs.History.{Slot, Start, binds, bound, ended, ended_at, ends, learns, place, slot, slot_with, start, starts, step_in, steps, version}
use Rattle.qz_terms.proofs.Standing.{up-behind}
use Rattle.qz_terms.proofs.Walks.{all_of-push, first_of-push, first_told, last_of-push}

or-none : {A : Type 0} (o : Option A) → option_or o None ≡ o
or-none None = refl
or-none (Some x) = refl

module _ (l : List Record) (r : Record) (a : AttemptId) where
  pub start-more : (o : Option Start) → starts a r ≡ o → start (l ++ r ∷ []) a ≡ option_or (start l a) o
  start-more o is = first_of-push (starts a) l r ∙ ap (option_or (start l a)) is

  pub start-same : starts a r ≡ None → start (l ++ r ∷ []) a ≡ start l a
  start-same is = start-more None is ∙ or-none (start l a)

  pub bound-more : (k : ℕ) (o : Option Bound) → binds a k r ≡ o → bound (l ++ r ∷ []) a k ≡ option_or o (bound l a k)
  bound-more k o is = last_of-push (binds a k) l r ∙ ap (λ (p : Option Bound). option_or p (bound l a k)) is

  pub steps-more : (k : ℕ) (x : Step) → step_in a k r ≡ Some x → steps (l ++ r ∷ []) a k ≡ steps l a k ++ x ∷ []
  steps-more k x is = all_of-push (step_in a k) l r ∙ ap (λ (o : Option Step). steps l a k ++ option_to_list o) is

  pub steps-same : (k : ℕ) → step_in a k r ≡ None → steps (l ++ r ∷ []) a k ≡ steps l a k
  steps-same k is = all_of-push (step_in a k) l r ∙ ap (λ (o : Option Step). steps l a k ++ option_to_list o) is ∙ append-nil (steps l a k)

  pub ended-more : (o : Option How) → ends a r ≡ o → ended (l ++ r ∷ []) a ≡ option_or (ended l a) o
  ended-more o is = first_of-push (ends a) l r ∙ ap (option_or (ended l a)) is

  pub ended-same : ends a r ≡ None → ended (l ++ r ∷ []) a ≡ ended l a
  ended-same is = ended-more None is ∙ or-none (ended l a)

pub version-more : (l : List Record) (r : Record) (e v : ℕ) (q : Question) → version l e v ≡ Some q → version (l ++ r ∷ []) e v ≡ Some q
version-more l r e v q is = first_of-push (learns e v) l r ∙ ap (λ (o : Option Question). option_or o (learns e v r)) is

-- ---- the place of an end

up-kept-step : {A : Type 0} (p : A → Bool) (y : A) (xs ys : List A) (x : A) (b : Bool) → p y ≡ b → first_of (filter p (y ∷ xs)) ≡ Some x → (first_of (filter p xs) ≡ Some x → up_to_first p (xs ++ ys) ≡ up_to_first p xs) → up_to_first p ((y ∷ xs) ++ ys) ≡ up_to_first p (y ∷ xs)
up-kept-step p y xs ys x true is found later = rw is refl
up-kept-step p y xs ys x false is found later = rw is (ap (λ (t : List _). y ∷ t) (later (rw is at found)))

up-kept : {A : Type 0} (p : A → Bool) (xs ys : List A) (x : A) → first_of (filter p xs) ≡ Some x → up_to_first p (xs ++ ys) ≡ up_to_first p xs
up-kept p [] ys x found = absurd cc
up-kept p (y ∷ xs) ys x found = up-kept-step p y xs ys x (p y) refl found (up-kept p xs ys x)

none-passes-step : {A B : Type 0} (f : A → Option B) (x : A) (xs : List A) (o : Option B) → f x ≡ o → first_of (filter_map f (x ∷ xs)) ≡ None → (first_of (filter_map f xs) ≡ None → list_any (λ y. is_some (f y)) xs ≡ false) → list_any (λ y. is_some (f y)) (x ∷ xs) ≡ false
none-passes-step f x xs None is none later = rw is (later (rw is at none))
none-passes-step f x xs (Some y) is none later = absurd (let some : Some y ≡ None = rw is at none in cc)

none-passes : {A B : Type 0} (f : A → Option B) (xs : List A) → first_of (filter_map f xs) ≡ None → list_any (λ y. is_some (f y)) xs ≡ false
none-passes f [] none = refl
none-passes f (x ∷ xs) none = none-passes-step f x xs (f x) refl none (none-passes f xs)

abbrev is_end : AttemptId → Record → Bool
is_end a r = is_some (ends a r)

some-there : {A : Type 0} (o : Option A) → is_some o ≡ true → (x : A) × (o ≡ Some x)
some-there None is = absurd cc
some-there (Some x) is = (x, refl)

module _ (l : List Record) (r : Record) (a : AttemptId) where
  ended_at-by : (o : Option How) → ends a r ≡ None → ended l a ≡ o → ended_at (l ++ r ∷ []) a ≡ ended_at l a
  ended_at-by None no_end is = rw (ended-same l r a no_end, is) refl
  ended_at-by (Some w) no_end is =
      let some : is_some (first_of (filter (is_end a) l)) ≡ true = sym (first_told (ends a) l) ∙ ap is_some is in
      let first = some-there (first_of (filter (is_end a) l)) some in
      rw (ended-same l r a no_end, is) (ap (λ (t : List Record). Some (place t a.user)) (up-kept (is_end a) l (r ∷ []) first.0 first.1))

  pub ended_at-same : ends a r ≡ None → ended_at (l ++ r ∷ []) a ≡ ended_at l a
  ended_at-same no_end = ended_at-by (ended l a) no_end refl

  pub ended_at-new : (w : How) → ended l a ≡ None → ends a r ≡ Some w → ended_at (l ++ r ∷ []) a ≡ Some (place (l ++ r ∷ []) a.user)
  ended_at-new w none is =
      let none_before : list_any (is_end a) l ≡ false = none-passes (ends a) l none in
      let here : is_end a r ≡ true = ap is_some is in
      rw (ended-more l r a (Some w) is, none) (ap (λ (t : List Record). Some (place t a.user)) (up-behind (is_end a) l r [] none_before here))

-- ---- a slot

-- what a slot is made of
pub record HasParts (h : List Record) (a : AttemptId) (k : ℕ) (s : Start) (b : Bound) (q : Question) : Type 0 where
  pub begun : start h a ≡ Some s
  pub bound_is : bound h a k ≡ Some b
  pub asks : version h b.entry b.version ≡ Some q

pub slot-there : (h : List Record) (a : AttemptId) (k : ℕ) (s : Start) (b : Bound) (q : Question) → HasParts h a k s b q → slot h a k ≡ Some (slot_with s b (steps h a k) q)
slot-there h a k s b q p = rw (p.begun, p.bound_is, p.asks) refl

-- the parts of a slot that is there
pub record IsMade (h : List Record) (a : AttemptId) (k : ℕ) (x : Slot) : Type 0 where
  pub started : Start
  pub bound_now : Bound
  pub asked : Question
  pub parts : HasParts h a k started bound_now asked
  pub whole : x ≡ slot_with started bound_now (steps h a k) asked

made-by : (h : List Record) (a : AttemptId) (k : ℕ) (x : Slot) (o : Option Start) (p : Option Bound) → start h a ≡ o → bound h a k ≡ p
    → option_and_then (λ s. option_and_then (λ (b : Bound). option_map (slot_with s b (steps h a k)) (version h b.entry b.version)) p) o ≡ Some x → IsMade h a k x
made-by h a k x None p begun bound_is is = absurd cc
made-by h a k x (Some s) None begun bound_is is = absurd cc
made-by h a k x (Some s) (Some b) begun bound_is is = made-asked (version h b.entry b.version) refl is
  where
    made-asked : (v : Option Question) → version h b.entry b.version ≡ v → option_map (slot_with s b (steps h a k)) v ≡ Some x → IsMade h a k x
    made-asked None asks told = absurd cc
    made-asked (Some q) asks told = record { started = s; bound_now = b; asked = q; parts = record { begun = begun; bound_is = bound_is; asks = asks }; whole = let same : slot_with s b (steps h a k) q ≡ x = cc in sym same }

pub made-of : (h : List Record) (a : AttemptId) (k : ℕ) (x : Slot) → slot h a k ≡ Some x → IsMade h a k x
made-of h a k x is = made-by h a k x (start h a) (bound h a k) refl refl is

unbound-by : (h : List Record) (a : AttemptId) (k : ℕ) (o : Option Start) (p : Option Bound) → p ≡ None
    → option_and_then (λ s. option_and_then (λ (b : Bound). option_map (slot_with s b (steps h a k)) (version h b.entry b.version)) p) o ≡ None
unbound-by h a k None p none = refl
unbound-by h a k (Some s) None none = refl
unbound-by h a k (Some s) (Some b) none = absurd cc

-- there is no slot where nothing is bound
pub slot-unbound : (h : List Record) (a : AttemptId) (k : ℕ) → bound h a k ≡ None → slot h a k ≡ None
slot-unbound h a k none = unbound-by h a k (start h a) (bound h a k) none
