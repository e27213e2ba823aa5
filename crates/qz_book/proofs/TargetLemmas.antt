-- The first slot that a job has left, found attempt by attempt, and what is known of it.
use Rattle.std.proofs.Common.{◌≡◌, ℕ, ◌+◌, Bool, true, false, not, List, [], ◌∷◌, ◌++◌, Option, Some, None, append-nil, refl, sym, ap, subst, ◌∙◌, option_map, eq-eqb, All}
use Rattle.std.specs.Option.{option_or}
use Rattle.std.specs.Prelude.{◌==◌, filter, filter_map, flat_map, if◌then◌else◌, nat_lt, option_and_then, option_to_list, unwrap_or}
use Rattle.std.proofs.lemmas.Bool.{eqb-true, not-true}
use Rattle.std.proofs.lemmas.List.Elements.{All-cons, All-head, All-nil, All-push, All-tail, All-weaker}
use Rattle.qz_grading.specs.declared.question.Question.{Question}
use Rattle.qz_grading.specs.declared.refusal.AttemptId.{AttemptId}
use Rattle.qz_terms.specs.declared.plan.Bound.{Bound}
use Rattle.qz_terms.specs.declared.plan.Job.{Job}
use Rattle.qz_terms.specs.declared.record.Record.{Record}
use Rattle.qz_terms.specs.Answer.{first_target}
use Rattle.qz_terms.specs.Legal.{EventIsAllowed, IsLegal}
use Rattle.qz_terms.specs.Lists.{first_of, in_order, places_to}
use Rattle.qz_terms.specs.Lists as lists
use Rattle.qz_terms.specs.History.{Start, attempt_at, attempt_before, bound, is_skipped, is_target, question, quiz, same_attempt, slot_count, start, started, starts, targets, targets_in, version}
use Rattle.qz_terms.proofs.Walks.{all_of-push}
use Rattle.qz_book.specs.Targets.{first_left, has_left}
use Rattle.qz_book.proofs.Effects.{Does, acts, begins, does, finishes, leaves, rebinds}
use Rattle.qz_lives.proofs.Keeping.{and-left, and-right}
use Rattle.qz_lives.proofs.Legality.{by-prefixes, legal-before}
use Rattle.qz_book.proofs.Placing.{placed, start-more}
use Rattle.qz_book.proofs.PlayLemmas.{places-more}

-- ---- the first place that passes

first-alone : {A : Type 0} (p : A → Bool) (x : A) (b : Bool) → p x ≡ b → first_of (filter p (x ∷ [])) ≡ (if b then Some x else None)
first-alone p x true is = rw is refl
first-alone p x false is = rw is refl

first-end-step : {A : Type 0} (p : A → Bool) (y : A) (xs : List A) (x : A) (b : Bool) → p y ≡ b → first_of (filter p (xs ++ x ∷ [])) ≡ option_or (first_of (filter p xs)) (if p x then Some x else None) → first_of (filter p ((y ∷ xs) ++ x ∷ [])) ≡ option_or (first_of (filter p (y ∷ xs))) (if p x then Some x else None)
first-end-step p y xs x true is rest = rw is refl
first-end-step p y xs x false is rest = rw is rest

first-end : {A : Type 0} (p : A → Bool) (xs : List A) (x : A) → first_of (filter p (xs ++ x ∷ [])) ≡ option_or (first_of (filter p xs)) (if p x then Some x else None)
first-end p [] x = first-alone p x (p x) refl
first-end p (y ∷ xs) x = first-end-step p y xs x (p y) refl (first-end p xs x)

pub first-place : (p : ℕ → Bool) (n : ℕ) → first_of (filter p (places_to (n + 1))) ≡ option_or (first_of (filter p (places_to n))) (if p (n + 1) then Some (n + 1) else None)
first-place p n = ap (λ (ns : List ℕ). first_of (filter p ns)) (places-more n) ∙ first-end p (places_to n) (n + 1)

passes-step : {A : Type 0} (p : A → Bool) (y : A) (xs : List A) (x : A) (b : Bool) → p y ≡ b → first_of (filter p (y ∷ xs)) ≡ Some x → (first_of (filter p xs) ≡ Some x → p x ≡ true) → p x ≡ true
passes-step p y xs x true is found rest = let first : Some y ≡ Some x = rw is at found in let same : y ≡ x = cc in ap p (sym same) ∙ is
passes-step p y xs x false is found rest = rest (rw is at found)

-- it passes
pub passes : {A : Type 0} (p : A → Bool) (xs : List A) (x : A) → first_of (filter p xs) ≡ Some x → p x ≡ true
passes p [] x found = absurd cc
passes p (y ∷ xs) x found = passes-step p y xs x (p y) refl found (passes p xs x)

of-all-step : {A : Type 0} (P : A → Type 0) (p : A → Bool) (y : A) (xs : List A) (x : A) (b : Bool) → p y ≡ b → All P (y ∷ xs) → first_of (filter p (y ∷ xs)) ≡ Some x → (first_of (filter p xs) ≡ Some x → P x) → P x
of-all-step P p y xs x true is all found rest = let first : Some y ≡ Some x = rw is at found in let same : y ≡ x = cc in subst P same (All-head P y xs all)
of-all-step P p y xs x false is all found rest = rest (rw is at found)

-- and is one of the list
pub of-all : {A : Type 0} (P : A → Type 0) (p : A → Bool) (xs : List A) (x : A) → All P xs → first_of (filter p xs) ≡ Some x → P x
of-all P p [] x all found = absurd cc
of-all P p (y ∷ xs) x all found = of-all-step P p y xs x (p y) refl all found (of-all P p xs x (All-tail P y xs all))

-- ---- the first target

pub none-left : {A : Type 0} (xs : List A) → first_of xs ≡ None → xs ≡ []
none-left [] none = refl
none-left (x ∷ xs) none = absurd cc

abbrev pub first_of_attempt : List Record → ℕ → ℕ → AttemptId → Option (AttemptId × ℕ)
first_of_attempt h job position a = option_map (λ k. (a, k)) (first_left h job position a)

first-flat-step : (h : List Record) (job position : ℕ) (a : AttemptId) (xs : List AttemptId) (ks : List ℕ) → filter (is_target h job position a) (places_to (slot_count h a)) ≡ ks
    → first_of (flat_map (targets_in h job position) xs) ≡ option_and_then (first_of_attempt h job position) (first_of (filter (has_left h job position) xs))
    → first_of (flat_map (targets_in h job position) (a ∷ xs)) ≡ option_and_then (first_of_attempt h job position) (first_of (filter (has_left h job position) (a ∷ xs)))
first-flat-step h job position a xs [] is rest = rw is rest
first-flat-step h job position a xs (k ∷ ks) is rest = rw (is, is) refl

first-flat : (h : List Record) (job position : ℕ) (xs : List AttemptId) → first_of (flat_map (targets_in h job position) xs) ≡ option_and_then (first_of_attempt h job position) (first_of (filter (has_left h job position) xs))
first-flat h job position [] = refl
first-flat h job position (a ∷ xs) = first-flat-step h job position a xs (filter (is_target h job position a) (places_to (slot_count h a))) refl (first-flat h job position xs)

-- the attempts of a quiz, in order
abbrev pub attempts_of : List Record → ℕ → List AttemptId
attempts_of h q = in_order attempt_before (filter_map (attempt_at q) h)

pub target-by : (h : List Record) (job q position : ℕ) (o : Option AttemptId) → o ≡ first_of (filter (has_left h job position) (attempts_of h q)) → first_of (targets h job q position) ≡ option_and_then (first_of_attempt h job position) o
target-by h job q position o is = first-flat h job position (attempts_of h q) ∙ ap (option_and_then (first_of_attempt h job position)) (sym is)

-- ---- attempts of a quiz

abbrev pub OfQuiz : List Record → ℕ → AttemptId → Type 0
OfQuiz h q a = quiz h a ≡ Some q

record IsStartOf (r : Record) (q : ℕ) (a : AttemptId) : Type 0 where
  told : Start
  starts_it : starts a r ≡ Some told
  quiz_is : told.quiz ≡ q

pub self-same : (a : AttemptId) → same_attempt a a ≡ true
self-same a = rw (eq-eqb a.user a.user refl, eq-eqb a.nth a.nth refl) refl

start-of-some : (r : Record) (q : ℕ) (a : AttemptId) (s : Start) (b : Bool) → started r ≡ Some s → (s.quiz == q) ≡ b → option_map (λ (t : Start). t.attempt) (if b then Some s else None) ≡ Some a → IsStartOf r q a
start-of-some r q a s true is test told =
    let same : s.attempt ≡ a = cc in
    let alike : same_attempt a s.attempt ≡ true = ap (same_attempt a) same ∙ self-same a in
    record { told = s; starts_it = rw (is, alike) refl; quiz_is = eqb-true s.quiz q test }
start-of-some r q a s false is test told = absurd cc

start-of : (r : Record) (q : ℕ) (a : AttemptId) (o : Option Start) → started r ≡ o → attempt_at q r ≡ Some a → IsStartOf r q a
start-of r q a None is told = let none : attempt_at q r ≡ None = rw is refl in absurd cc
start-of r q a (Some s) is told = start-of-some r q a s (s.quiz == q) is refl (rw is at told)

first-by : (l : List Record) (r : Record) (a : AttemptId) (told : Start) → Does l r a 1 → starts a r ≡ Some told → start l a ≡ None
first-by l r a told (begins d) is = d.first
first-by l r a told (acts x d) is = let none = d.no_start in absurd cc
first-by l r a told (finishes d) is = let none = d.no_start in absurd cc
first-by l r a told (rebinds d) is = let none = d.no_start in absurd cc
first-by l r a told (leaves d) is = let none = d.no_start in absurd cc

quiz-kept : (o p : Option Start) (q : ℕ) → option_map (λ (s : Start). s.quiz) o ≡ Some q → option_map (λ (s : Start). s.quiz) (option_or o p) ≡ Some q
quiz-kept None p q is = absurd cc
quiz-kept (Some s) p q is = is

quiz-more : (l : List Record) (r : Record) (q : ℕ) (a : AttemptId) → OfQuiz l q a → OfQuiz (l ++ r ∷ []) q a
quiz-more l r q a is = ap (option_map (λ (s : Start). s.quiz)) (start-more l r a (starts a r) refl) ∙ quiz-kept (start l a) (starts a r) q is

quiz-new : (l : List Record) (r : Record) (q : ℕ) (a : AttemptId) → IsStartOf r q a → start l a ≡ None → OfQuiz (l ++ r ∷ []) q a
quiz-new l r q a s none = ap (option_map (λ (t : Start). t.quiz)) (start-more l r a (Some s.told) s.starts_it ∙ ap (λ (o : Option Start). option_or o (Some s.told)) none) ∙ ap (λ n. Some n) s.quiz_is

of-quiz-more : (index count : ℕ) (l : List Record) (r : Record) (q : ℕ) (o : Option AttemptId) → IsLegal index count l → EventIsAllowed l r r.event → attempt_at q r ≡ o → All (OfQuiz l q) (filter_map (attempt_at q) l) → All (OfQuiz (l ++ r ∷ []) q) (filter_map (attempt_at q) (l ++ r ∷ []))
of-quiz-more index count l r q None legal allowed is so_far =
    let all : filter_map (attempt_at q) (l ++ r ∷ []) ≡ filter_map (attempt_at q) l = all_of-push (attempt_at q) l r ∙ ap (λ (o : Option AttemptId). filter_map (attempt_at q) l ++ option_to_list o) is ∙ append-nil (filter_map (attempt_at q) l) in
    subst (All (OfQuiz (l ++ r ∷ []) q)) (sym all) (All-weaker (OfQuiz l q) (OfQuiz (l ++ r ∷ []) q) (quiz-more l r q) (filter_map (attempt_at q) l) so_far)
of-quiz-more index count l r q (Some a) legal allowed is so_far =
    let all : filter_map (attempt_at q) (l ++ r ∷ []) ≡ filter_map (attempt_at q) l ++ a ∷ [] = all_of-push (attempt_at q) l r ∙ ap (λ (o : Option AttemptId). filter_map (attempt_at q) l ++ option_to_list o) is in
    let s = start-of r q a (started r) refl is in
    let first : start l a ≡ None = first-by l r a s.told (does index count l r a 1 legal allowed) s.starts_it in
    subst (All (OfQuiz (l ++ r ∷ []) q)) (sym all)
    (All-push (OfQuiz (l ++ r ∷ []) q) (filter_map (attempt_at q) l) a (All-weaker (OfQuiz l q) (OfQuiz (l ++ r ∷ []) q) (quiz-more l r q) (filter_map (attempt_at q) l) so_far) (quiz-new l r q a s first))

of-quiz : (index count : ℕ) (h : List Record) (q : ℕ) → IsLegal index count h → All (OfQuiz h q) (filter_map (attempt_at q) h)
of-quiz index count h q legal = by-prefixes (λ l. All (OfQuiz l q) (filter_map (attempt_at q) l)) h (All-nil (OfQuiz [] q)) (λ l r rest e so_far.
    of-quiz-more index count l r q (attempt_at q r) (legal-before index count l (r ∷ rest) (subst (IsLegal index count) e legal)) (legal.each l r rest e).event refl so_far)

-- ---- in order

All-placed-step : {A : Type 0} (P : A → Type 0) (before : A → A → Bool) (x y : A) (ys : List A) (b c : Bool) → before x y ≡ b → before y x ≡ c → P x → All P (y ∷ ys) → All P (lists.placed before x ys) → All P (lists.placed before x (y ∷ ys))
All-placed-step P before x y ys true c is also one all rest = rw is (All-cons P x (y ∷ ys) one all)
All-placed-step P before x y ys false true is also one all rest = rw (is, also) (All-cons P y (lists.placed before x ys) (All-head P y ys all) rest)
All-placed-step P before x y ys false false is also one all rest = rw (is, also) all

All-placed : {A : Type 0} (P : A → Type 0) (before : A → A → Bool) (x : A) (ys : List A) → P x → All P ys → All P (lists.placed before x ys)
All-placed P before x [] one all = All-cons P x [] one all
All-placed P before x (y ∷ ys) one all = All-placed-step P before x y ys (before x y) (before y x) refl refl one all (All-placed P before x ys one (All-tail P y ys all))

All-in_order : {A : Type 0} (P : A → Type 0) (before : A → A → Bool) (xs : List A) → All P xs → All P (in_order before xs)
All-in_order P before [] all = all
All-in_order P before (x ∷ xs) all = All-placed P before x (in_order before xs) (All-head P x xs all) (All-in_order P before xs (All-tail P x xs all))

-- each is one of the quiz
pub all-of_quiz : (index count : ℕ) (h : List Record) (q : ℕ) → IsLegal index count h → All (OfQuiz h q) (attempts_of h q)
all-of_quiz index count h q legal = All-in_order (OfQuiz h q) attempt_before (filter_map (attempt_at q) h) (of-quiz index count h q legal)

-- ---- what is known of the first target

pub record IsLeft (h : List Record) (job : Job) (a : AttemptId) (k : ℕ) : Type 0 where
  pub begun : Start
  pub begun_is : start h a ≡ Some begun
  pub of_quiz : quiz h a ≡ Some job.plan.quiz
  pub unskipped : is_skipped h job.number a k ≡ false
  pub old : Question
  pub old_is : question h a k ≡ Some old

some-start : (o : Option Start) (q : ℕ) → option_map (λ (s : Start). s.quiz) o ≡ Some q → (s : Start) × (o ≡ Some s)
some-start None q is = absurd cc
some-start (Some s) q is = (s, refl)

pub some-bound : (o : Option Bound) (position : ℕ) → unwrap_or (option_map (λ (b : Bound). nat_lt b.at position) o) false ≡ true → (b : Bound) × (o ≡ Some b)
some-bound None position is = absurd cc
some-bound (Some b) position is = (b, refl)

-- the attempt and the slot of a pair
parts-slot : (a b : AttemptId) (k : ℕ) (o : Option ℕ) → option_map {U = AttemptId × ℕ} (λ j. (b, j)) o ≡ Some (a, k) → (b ≡ a) × (o ≡ Some k)
parts-slot a b k None is = absurd cc
parts-slot a b k (Some j) is =
    let one : AttemptId × ℕ = (b, j) in
    let other : AttemptId × ℕ = (a, k) in
    let same : one ≡ other = cc in
    (ap (λ (t : AttemptId × ℕ). t.0) same, ap (λ (t : AttemptId × ℕ). Some t.1) same)

parts-by : (h : List Record) (job position : ℕ) (a : AttemptId) (k : ℕ) (o : Option AttemptId) → option_and_then (first_of_attempt h job position) o ≡ Some (a, k) → (o ≡ Some a) × (first_left h job position a ≡ Some k)
parts-by h job position a k None is = absurd cc
parts-by h job position a k (Some b) is =
    let parts = parts-slot a b k (first_left h job position b) is in
    (ap (λ (c : AttemptId). Some c) parts.0, ap (first_left h job position) (sym parts.0) ∙ parts.1)

-- the first of all targets is one
pub first-is_target : (h : List Record) (job q position : ℕ) (a : AttemptId) (k : ℕ) → first_of (targets h job q position) ≡ Some (a, k) → is_target h job position a k ≡ true
first-is_target h job q position a k is =
    let attempt = first_of (filter (has_left h job position) (attempts_of h q)) in
    let parts = parts-by h job position a k attempt (sym (target-by h job q position attempt refl) ∙ is) in
    passes (is_target h job position a) (places_to (slot_count h a)) k parts.1

pub left : (index count : ℕ) (h : List Record) (job : Job) (a : AttemptId) (k : ℕ) → IsLegal index count h → first_target h job ≡ Some (a, k) → IsLeft h job a k
left index count h job a k legal is =
    let attempt = first_of (filter (has_left h job.number job.position) (attempts_of h job.plan.quiz)) in
    let parts = parts-by h job.number job.position a k attempt (sym (target-by h job.number job.plan.quiz job.position attempt refl) ∙ is) in
    let of_it : quiz h a ≡ Some job.plan.quiz = of-all (OfQuiz h job.plan.quiz) (has_left h job.number job.position) (attempts_of h job.plan.quiz) a (all-of_quiz index count h job.plan.quiz legal) parts.0 in
    let test : is_target h job.number job.position a k ≡ true = first-is_target h job.number job.plan.quiz job.position a k is in
    let early = unwrap_or (option_map (λ (b : Bound). nat_lt b.at job.position) (bound h a k)) false in
    let s = some-start (start h a) job.plan.quiz of_it in
    let b = some-bound (bound h a k) job.position (and-left early (not (is_skipped h job.number a k)) test) in
    let q = (placed index count h a k legal).learned b.0 b.1 in
    record {
      begun = s.0;
      begun_is = s.1;
      of_quiz = of_it;
      unskipped = not-true (is_skipped h job.number a k) (and-right early (not (is_skipped h job.number a k)) test);
      old = q.0;
      old_is = ap (option_and_then (λ (b : Bound). version h b.entry b.version)) b.1 ∙ q.1;
    }
