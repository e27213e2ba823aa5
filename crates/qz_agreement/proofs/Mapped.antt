-- The quiz of an attempt once one more record is followed.
use Rattle.std.proofs.Common.{◌≡◌, ℕ, Bool, true, false, ◌&&◌, List, [], ◌∷◌, ◌++◌, Option, Some, None, option_map, cond, refl, sym, ap, ◌∙◌, arith, eq-eqb}
use Rattle.std.specs.BTreeMap.{Updates, get, is_at}
use Rattle.std.specs.Cmp.{tied_then}
use Rattle.std.specs.Option.{option_or}
use Rattle.std.specs.Ordering.{is_eq, nat_cmp}
use Rattle.std.specs.Prelude.{◌==◌, is_some, nat_lt, option_and_then}
use Rattle.std.proofs.lemmas.Bool.{and_parts, eqb-true, ltb-true}
use Rattle.qz_grading.specs.declared.outcome.Behaviour.{Behaviour}
use Rattle.qz_grading.specs.declared.refusal.AttemptId.{AttemptId}
use Rattle.qz_terms.specs.declared.plan.Bound.{Bound}
use Rattle.qz_terms.specs.declared.record.Event.{Event}
use Rattle.qz_terms.specs.declared.record.Event.TheVariants as event
use Rattle.qz_terms.specs.declared.record.Learned.{Learned}
use Rattle.qz_terms.specs.declared.record.Record.{Record}
use Rattle.qz_terms.specs.History as history
use Rattle.qz_terms.specs.History.{Start, same_attempt, start_by, started, starts}
use Rattle.qz_terms.specs.Lists.{only_if}
use Rattle.qz_terms.proofs.Walks.{first_of-push, option_map-either}
use Rattle.qz_agreement.specs.declared.quizzes.Quizzes.{Quizzes}
use Rattle.qz_agreement.specs.Quizzes.{AreQuizzes, by_number}
use Rattle.qz_agreement.proofs.Sameness.{two}

tie-by : (x y : ℕ) (less same : Bool) → nat_lt x y ≡ less → (x == y) ≡ same → is_eq (nat_cmp x y) ≡ same
tie-by x y true true is also = absurd (let below = ltb-true x y is in let one = eqb-true x y also in omega arith)
tie-by x y true false is also = rw is refl
tie-by x y false true is also = rw (is, also) refl
tie-by x y false false is also = rw (is, also) refl

tie : (x y : ℕ) → is_eq (nat_cmp x y) ≡ (x == y)
tie x y = tie-by x y (nat_lt x y) (x == y) refl refl

same-key : (a b : AttemptId) → is_at (by_number (a.user, a.nth)) (b.user, b.nth) ≡ same_attempt a b
same-key a b = sym (tied_then (nat_cmp a.user b.user) (nat_cmp a.nth b.nth)) ∙ ap (λ (t : Bool). t && is_eq (nat_cmp a.nth b.nth)) (tie a.user b.user) ∙ ap (λ (t : Bool). (a.user == b.user) && t) (tie a.nth b.nth)

quiz-push : (l : List Record) (r : Record) (a : AttemptId) → history.quiz (l ++ r ∷ []) a ≡ option_or (history.quiz l a) (option_map (λ (s : Start). s.quiz) (starts a r))
quiz-push l r a = ap (option_map (λ (s : Start). s.quiz)) (first_of-push (starts a) l r) ∙ option_map-either (λ (s : Start). s.quiz) (history.start l a) (starts a r)

or-none : {A : Type 0} (o : Option A) → option_or o None ≡ o
or-none None = refl
or-none (Some x) = refl

-- a record that starts no attempt changes nothing
pub quiz-other : (m : Quizzes) (l : List Record) (r : Record) → started r ≡ None → AreQuizzes m l → AreQuizzes m (l ++ r ∷ [])
quiz-other m l r none are = record { each = λ a. are.each a ∙ sym (quiz-push l r a ∙ ap (λ (o : Option Start). option_or (history.quiz l a) (option_map (λ (s : Start). s.quiz) (option_and_then (only_if (λ (s : Start). same_attempt a s.attempt)) o))) none ∙ or-none (history.quiz l a)) }

-- what a start tells of an attempt
starts-by : (a : AttemptId) (s : Start) (r : Record) (z : Bool) → started r ≡ Some s → same_attempt a s.attempt ≡ z → option_map (λ (t : Start). t.quiz) (starts a r) ≡ cond z (Some s.quiz) None
starts-by a s r true is same = rw (is, same) refl
starts-by a s r false is same = rw (is, same) refl

swap-by : (x y : ℕ) (b d : Bool) → (x == y) ≡ b → (y == x) ≡ d → b ≡ d
swap-by x y true true one other = refl
swap-by x y true false one other = let e = eqb-true x y one in let back = eq-eqb y x (sym e) in cc
swap-by x y false true one other = let e = eqb-true y x other in let back = eq-eqb x y (sym e) in cc
swap-by x y false false one other = refl

number-swap : (x y : ℕ) → (x == y) ≡ (y == x)
number-swap x y = swap-by x y (x == y) (y == x) refl refl

attempt-swap : (a b : AttemptId) → same_attempt a b ≡ same_attempt b a
attempt-swap a b = ap (λ (t : Bool). t && (a.nth == b.nth)) (number-swap a.user b.user) ∙ ap (λ (t : Bool). (b.user == a.user) && t) (number-swap a.nth b.nth)

abbrev attempt_of : ℕ → ℕ → AttemptId
attempt_of u n = record { user = u; nth = n }

one-attempt : (a b : AttemptId) → same_attempt a b ≡ true → a ≡ b
one-attempt a b is =
    let parts = and_parts (a.user == b.user) (a.nth == b.nth) is in
    two attempt_of a.user b.user a.nth b.nth (eqb-true a.user b.user parts.0) (eqb-true a.nth b.nth parts.1)

there-by : (o p : Option ℕ) (q : ℕ) (z : Bool) → (z ≡ true → o ≡ None) → cond z (Some q) o ≡ option_or o (cond z (Some q) None)
there-by o p q true none = rw (none refl) refl
there-by o p q false none = sym (or-none o)

kept-by : (o : Option ℕ) (q : ℕ) (z : Bool) → (z ≡ true → is_some o ≡ true) → o ≡ option_or o (cond z (Some q) None)
kept-by None q true there = absurd (let no = there refl in cc)
kept-by None q false there = refl
kept-by (Some x) q z there = refl

quiz-of-start : (l : List Record) (r : Record) (s : Start) (a : AttemptId) → started r ≡ Some s → history.quiz (l ++ r ∷ []) a ≡ option_or (history.quiz l a) (cond (same_attempt a s.attempt) (Some s.quiz) None)
quiz-of-start l r s a is = quiz-push l r a ∙ ap (option_or (history.quiz l a)) (starts-by a s r (same_attempt a s.attempt) is refl)

-- the first record of an attempt gives its quiz
pub quiz-put : (m n : Quizzes) (l : List Record) (r : Record) (s : Start) → started r ≡ Some s → get by_number m.quizzes (s.attempt.user, s.attempt.nth) ≡ None
    → Updates by_number m.quizzes n.quizzes (s.attempt.user, s.attempt.nth) (Some s.quiz) → AreQuizzes m l → AreQuizzes n (l ++ r ∷ [])
quiz-put m n l r s is none u are = record {
  each = λ a.
      let here : is_at (by_number (s.attempt.user, s.attempt.nth)) (a.user, a.nth) ≡ same_attempt a s.attempt = same-key s.attempt a ∙ attempt-swap s.attempt a in
      u.0 (a.user, a.nth) ∙ ap (λ (z : Bool). cond z (Some s.quiz) (get by_number m.quizzes (a.user, a.nth))) here
      ∙ ap (cond (same_attempt a s.attempt) (Some s.quiz)) (are.each a)
      ∙ there-by (history.quiz l a) None s.quiz (same_attempt a s.attempt) (λ same. sym (are.each a) ∙ ap (λ (b : AttemptId). get by_number m.quizzes (b.user, b.nth)) (one-attempt a s.attempt same) ∙ none)
      ∙ sym (quiz-of-start l r s a is);
}

-- a later one doesn't
pub quiz-kept : (m : Quizzes) (l : List Record) (r : Record) (s : Start) → started r ≡ Some s → is_some (get by_number m.quizzes (s.attempt.user, s.attempt.nth)) ≡ true → AreQuizzes m l → AreQuizzes m (l ++ r ∷ [])
quiz-kept m l r s is there are = record {
  each = λ a. are.each a
      ∙ kept-by (history.quiz l a) s.quiz (same_attempt a s.attempt) (λ same. sym (ap is_some (ap (λ (b : AttemptId). get by_number m.quizzes (b.user, b.nth)) (sym (one-attempt a s.attempt same)) ∙ are.each a)) ∙ there)
      ∙ sym (quiz-of-start l r s a is);
}

pub nothing-there : {X : Type 0} (o : Option X) → is_some o ≡ false → o ≡ None
nothing-there None is = refl
nothing-there (Some x) is = absurd cc

pub none-started : (r : Record) (e : Event) → ((q nth : ℕ) (b : Behaviour) (bounds : List Bound) (learned : List Learned) → e ≡ event.Started q nth b bounds learned → ⊥) → start_by r e ≡ None
none-started r (event.Started q nth b bounds learned) never = absurd (never q nth b bounds learned refl)
none-started r e never = refl
