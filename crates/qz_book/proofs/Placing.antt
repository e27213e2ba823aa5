-- A place of an attempt that is started has a version bound, which the list has learned; before the start there is nothing of it.
use Rattle.std.proofs.Common.{◌≡◌, ℕ, ◌-◌, Bool, true, false, List, [], ◌∷◌, ◌++◌, Option, Some, None, length, refl, sym, ap, subst, ◌∙◌, append-nil, inl, inr, arith, ◌≤◌}
use Rattle.std.specs.Prelude.{◌==◌, is_none, if◌then◌else◌, nat_le, option_to_list, slice_get}
use Rattle.std.specs.Option.{option_or}
use Rattle.std.proofs.lemmas.Bool.{eqb-true, leb-true}
use Rattle.std.proofs.lemmas.Option.{slice_get_cases}
use Rattle.qz_grading.specs.declared.question.Question.{Question}
use Rattle.qz_grading.specs.declared.refusal.AttemptId.{AttemptId}
use Rattle.qz_grading.specs.declared.response.Step.{Step}
use Rattle.qz_grading.specs.Grading.{at_place, is_place}
use Rattle.qz_terms.specs.declared.people.User.{User}
use Rattle.qz_terms.specs.declared.plan.Bound.{Bound}
use Rattle.qz_terms.specs.declared.record.Record.{Record}
use Rattle.qz_terms.specs.Cause.{missing_attempt, missing_slot}
use Rattle.qz_terms.specs.Legal.{IsLegal}
use Rattle.qz_terms.specs.History.{Start, binds, bound, learns, start, starts, step_in, steps, version}
use Rattle.qz_terms.proofs.Walks.{all_of-push, first_of-push, last_of-push}
use Rattle.qz_lives.proofs.Effects.{IsActed, begun, first-two}
use Rattle.qz_book.proofs.Effects.{Begins, Does, Rebinds, acts, begins, does, finishes, leaves, rebinds}
use Rattle.qz_lives.proofs.Keeping.{and-left, and-right}
use Rattle.qz_lives.proofs.Legality.{by-prefixes, legal-before}
use Rattle.qz_isolation.proofs.Versions.{learned-after}

-- ---- readings of a list with one record more

pub or-none : {A : Type 0} (o : Option A) → option_or o None ≡ o
or-none None = refl
or-none (Some x) = refl

pub start-more : (l : List Record) (r : Record) (a : AttemptId) (o : Option Start) → starts a r ≡ o → start (l ++ r ∷ []) a ≡ option_or (start l a) o
start-more l r a o is = first_of-push (starts a) l r ∙ ap (option_or (start l a)) is

pub start-same : (l : List Record) (r : Record) (a : AttemptId) → starts a r ≡ None → start (l ++ r ∷ []) a ≡ start l a
start-same l r a is = start-more l r a None is ∙ or-none (start l a)

pub bound-more : (l : List Record) (r : Record) (a : AttemptId) (k : ℕ) (o : Option Bound) → binds a k r ≡ o → bound (l ++ r ∷ []) a k ≡ option_or o (bound l a k)
bound-more l r a k o is = last_of-push (binds a k) l r ∙ ap (λ (p : Option Bound). option_or p (bound l a k)) is

pub steps-same : (l : List Record) (r : Record) (a : AttemptId) (k : ℕ) → step_in a k r ≡ None → steps (l ++ r ∷ []) a k ≡ steps l a k
steps-same l r a k is = all_of-push (step_in a k) l r ∙ ap (λ (o : Option Step). steps l a k ++ option_to_list o) is ∙ append-nil (steps l a k)

pub version-more : (l : List Record) (r : Record) (e v : ℕ) (q : Question) → version l e v ≡ Some q → version (l ++ r ∷ []) e v ≡ Some q
version-more l r e v q is = first_of-push (learns e v) l r ∙ ap (λ (o : Option Question). option_or o (learns e v r)) is

-- ---- so far

-- a place of an attempt
pub record IsPlaced (l : List Record) (a : AttemptId) (k : ℕ) : Type 0 where
  pub nothing : start l a ≡ None → (steps l a k ≡ []) × (bound l a k ≡ None)
  pub something : (s : Start) → start l a ≡ Some s → is_place (length s.bounds) k ≡ true → (b : Bound) × (bound l a k ≡ Some b)
  pub learned : (b : Bound) → bound l a k ≡ Some b → (q : Question) × (version l b.entry b.version ≡ Some q)

none-started : (o : Option Start) → is_none o ≡ false → o ≡ None → ⊥
none-started None there is = absurd cc
none-started (Some s) there is = absurd cc

-- where the start, the bound and the steps stay
kept-place : (l : List Record) (r : Record) (a : AttemptId) (k : ℕ) → starts a r ≡ None → binds a k r ≡ None → step_in a k r ≡ None → IsPlaced l a k → IsPlaced (l ++ r ∷ []) a k
kept-place l r a k no_start no_bound no_step p = record {
  nothing = λ none.
      let before = p.nothing (sym (start-same l r a no_start) ∙ none) in
      (steps-same l r a k no_step ∙ before.0, bound-more l r a k None no_bound ∙ before.1);
  something = λ s is place.
      let before = p.something s (sym (start-same l r a no_start) ∙ is) place in
      (before.0, bound-more l r a k None no_bound ∙ before.1);
  learned = λ b is.
      let before = p.learned b (sym (bound-more l r a k None no_bound) ∙ is) in
      (before.0, version-more l r b.entry b.version before.0 before.1);
}

-- where a step is taken
stepped-place : (l : List Record) (r : Record) (a : AttemptId) (k : ℕ) → starts a r ≡ None → binds a k r ≡ None → is_none (start l a) ≡ false → IsPlaced l a k → IsPlaced (l ++ r ∷ []) a k
stepped-place l r a k no_start no_bound there p = record {
  nothing = λ none. absurd (none-started (start l a) there (sym (start-same l r a no_start) ∙ none));
  something = λ s is place.
      let before = p.something s (sym (start-same l r a no_start) ∙ is) place in
      (before.0, bound-more l r a k None no_bound ∙ before.1);
  learned = λ b is.
      let before = p.learned b (sym (bound-more l r a k None no_bound) ∙ is) in
      (before.0, version-more l r b.entry b.version before.0 before.1);
}

-- where another version is bound
rebound-learned : (l : List Record) (r : Record) (d b : Bound) (q : Question) → Some d ≡ Some b → version (l ++ r ∷ []) d.entry d.version ≡ Some q → (q : Question) × (version (l ++ r ∷ []) b.entry b.version ≡ Some q)
rebound-learned l r d b q is told = let same : d ≡ b = cc in (q, subst (λ (x : Bound). version (l ++ r ∷ []) x.entry x.version ≡ Some q) same told)

rebound-place : (l : List Record) (r : Record) (a : AttemptId) (k : ℕ) → Rebinds l r a k → IsPlaced l a k → IsPlaced (l ++ r ∷ []) a k
rebound-place l r a k d p = record {
  nothing = λ none. absurd (none-started (start l a) d.there (sym (start-same l r a d.no_start) ∙ none));
  something = λ s is place. (d.told, bound-more l r a k (Some d.told) d.binds_it);
  learned = λ b is. rebound-learned l r d.told b d.newer (sym (bound-more l r a k (Some d.told) d.binds_it) ∙ is) d.newer_is;
}

-- where the attempt starts
at-place : (bs : List Bound) (k : ℕ) (z : Bool) → (k == 0) ≡ z → (nat_le 1 k) ≡ true → nat_le k (length bs) ≡ true → (b : Bound) × ((if z then None else slice_get bs (k - 1)) ≡ Some b)
at-place bs k true is some few = absurd (let one : 1 ≤ k = leb-true 1 k some in let none : k ≡ 0 = eqb-true k 0 is in omega arith)
at-place bs k false is some few =
    let one : 1 ≤ k = leb-true 1 k some in
    let most : k ≤ length bs = leb-true k (length bs) few in
    elim (slice_get_cases bs (k - 1)).1 [
      | inl w ↦ (w.0, w.2)
      | inr w ↦ absurd (let past : length bs ≤ k - 1 = w.0 in omega arith)
    ]

in-place : (bs : List Bound) (k : ℕ) (b : Bound) (z : Bool) → (if z then None else slice_get bs (k - 1)) ≡ Some b → slice_get bs (k - 1) ≡ Some b
in-place bs k b true is = absurd cc
in-place bs k b false is = is

started-same : (l : List Record) (r : Record) (a : AttemptId) (k : ℕ) (d : Begins l r a k) (s : Start) → start (l ++ r ∷ []) a ≡ Some s → d.told ≡ s
started-same l r a k d s is =
    let told : start (l ++ r ∷ []) a ≡ Some d.told = start-more l r a (Some d.told) d.starts_it ∙ ap (λ (o : Option Start). option_or o (Some d.told)) d.first in
    cc

started-place : (l : List Record) (r : Record) (a : AttemptId) (k : ℕ) → Begins l r a k → IsPlaced l a k → IsPlaced (l ++ r ∷ []) a k
started-place l r a k d p =
    let told : start (l ++ r ∷ []) a ≡ Some d.told = start-more l r a (Some d.told) d.starts_it ∙ ap (λ (o : Option Start). option_or o (Some d.told)) d.first in
    let before = p.nothing d.first in
    let bound_is : bound (l ++ r ∷ []) a k ≡ at_place d.told.bounds k = bound-more l r a k (at_place d.told.bounds k) d.binds_it ∙ ap (option_or (at_place d.told.bounds k)) before.1 ∙ or-none (at_place d.told.bounds k) in
    record {
      nothing = λ none. absurd cc;
      something = λ s is place.
          let same : d.told ≡ s = started-same l r a k d s is in
          let there : is_place (length d.told.bounds) k ≡ true = ap (λ (x : Start). is_place (length x.bounds) k) same ∙ place in
          let at = at-place d.told.bounds k (k == 0) refl (and-left (nat_le 1 k) (nat_le k (length d.told.bounds)) there) (and-right (nat_le 1 k) (nat_le k (length d.told.bounds)) there) in
          (at.0, bound_is ∙ at.1);
      learned = λ b is. learned-after l r d.told.bounds (k - 1) b d.learns_it (in-place d.told.bounds k b (k == 0) (sym bound_is ∙ is));
    }

missing-first : (l : List Record) (user : User) (a : AttemptId) (k : ℕ) → missing_slot l user a k ≡ None → missing_attempt l user a ≡ None
missing-first l user a k there = (first-two (missing_attempt l user a) _ there).0

first-attempt : (l : List Record) (a : AttemptId) (k : ℕ) (x : Step) (w : IsActed l a k x) → is_none (start l a) ≡ false
first-attempt l a k x w = begun l w.user a (missing-first l w.user a k w.there)

placed-more : (l : List Record) (r : Record) (a : AttemptId) (k : ℕ) → Does l r a k → IsPlaced l a k → IsPlaced (l ++ r ∷ []) a k
placed-more l r a k (begins d) p = started-place l r a k d p
placed-more l r a k (acts x d) p = stepped-place l r a k d.no_start d.no_bound (first-attempt l a k x d.acted) p
placed-more l r a k (finishes d) p = stepped-place l r a k d.no_start d.no_bound (begun l d.ending.user a d.ending.there) p
placed-more l r a k (rebinds d) p = rebound-place l r a k d p
placed-more l r a k (leaves d) p = kept-place l r a k d.no_start d.no_bound d.no_step p

placed-none : (a : AttemptId) (k : ℕ) → IsPlaced [] a k
placed-none a k = record { nothing = λ none. (refl, refl); something = λ s is place. absurd cc; learned = λ b is. absurd cc }

pub placed : (index count : ℕ) (h : List Record) (a : AttemptId) (k : ℕ) → IsLegal index count h → IsPlaced h a k
placed index count h a k legal = by-prefixes (λ l. IsPlaced l a k) h (placed-none a k) (λ l r rest e p.
    placed-more l r a k (does index count l r a k (legal-before index count l (r ∷ rest) (subst (IsLegal index count) e legal)) (legal.each l r rest e).event) p)
