-- The search for a job's first target goes on behind the attempts that the job has passed.
use Rattle.std.proofs.Common.{◌≡◌, ℕ, ◌<◌, Bool, true, false, List, [], ◌∷◌, Option, Some, None, length, refl, sym, ap, subst, ◌∙◌, arith, option_map, eq-eqb, All}
use Rattle.std.specs.List.{list_any}
use Rattle.std.specs.Prelude.{◌==◌, filter, filter_map, is_some}
use Rattle.std.proofs.lemmas.List.Elements.{All-head, All-tail, All-weaker}
use Rattle.qz_grading.specs.declared.refusal.AttemptId.{AttemptId}
use Rattle.qz_index.proofs.OrderLemmas.{same-id}
use Rattle.qz_index.proofs.Sorting.{in_order-member}
use Rattle.qz_index.proofs.StartLemmas.{id_cmp, ids_order}
use Rattle.qz_index.specs.Orders.{attempt_after}
use Rattle.qz_terms.specs.declared.record.Record.{Record}
use Rattle.qz_terms.specs.Legal.{IsLegal}
use Rattle.qz_terms.specs.Lists.{first_of, in_order}
use Rattle.qz_terms.specs.History.{Start, attempt_at, attempt_before, quiz, same_attempt, started, targets}
use Rattle.qz_book.specs.Cursors.{IsPassed}
use Rattle.qz_book.specs.Targets.{first_left, has_left}
use Rattle.qz_lives.proofs.Effects.{one-attempt}
use Rattle.qz_lives.proofs.Members.{behind-all}
use Rattle.qz_lives.proofs.Orders.{Before, Rising, before-all, never-back, not-before, one, in_order-rises}
use Rattle.qz_book.proofs.TargetLemmas.{OfQuiz, all-of_quiz, attempts_of, none-left, of-all, target-by}

-- ---- the attempts behind one, in order

all-behind : (x : AttemptId) (xs : List AttemptId) → Before x xs → filter (attempt_before x) xs ≡ xs
unfolding Before
all-behind x [] b = refl
all-behind x (y ∷ ys) b = rw b.0 (ap (λ (l : List AttemptId). y ∷ l) (all-behind x ys b.1))

behind-step : (p a x : AttemptId) (xs : List AttemptId) (b : Bool) → attempt_before p x ≡ b → Rising (x ∷ xs) → first_of (filter (attempt_before p) (x ∷ xs)) ≡ Some a
    → (first_of (filter (attempt_before p) xs) ≡ Some a → filter (attempt_before p) xs ≡ a ∷ filter (attempt_before a) xs) → filter (attempt_before p) (x ∷ xs) ≡ a ∷ filter (attempt_before a) (x ∷ xs)
unfolding Rising
behind-step p a x xs true is rising found rest =
    let first : Some x ≡ Some a = rw is at found in
    let same : x ≡ a = cc in
    let whole : filter (attempt_before p) (x ∷ xs) ≡ x ∷ filter (attempt_before x) (x ∷ xs) =
    rw (is, not-before x) (ap (λ (l : List AttemptId). x ∷ l) (all-behind p xs (before-all p x xs is rising.0) ∙ sym (all-behind x xs rising.0))) in
    subst (λ (c : AttemptId). filter (attempt_before p) (x ∷ xs) ≡ c ∷ filter (attempt_before c) (x ∷ xs)) same whole
behind-step p a x xs false is rising found rest =
    let later : first_of (filter (attempt_before p) xs) ≡ Some a = rw is at found in
    let before : attempt_before x a ≡ true = of-all (λ y. attempt_before x y ≡ true) (attempt_before p) xs a (behind-all x xs rising.0) later in
    rw (is, never-back x a (attempt_before a x) refl before) (rest later)

-- the first attempt behind one, and those behind that
behind : (p a : AttemptId) (xs : List AttemptId) → Rising xs → first_of (filter (attempt_before p) xs) ≡ Some a → filter (attempt_before p) xs ≡ a ∷ filter (attempt_before a) xs
unfolding Rising
behind p a [] rising found = absurd cc
behind p a (x ∷ xs) rising found = behind-step p a x xs (attempt_before p x) refl rising found (behind p a xs rising.1)

any-step : (P : AttemptId → Type 0) (b x : AttemptId) (xs : List AttemptId) (z : Bool) → same_attempt b x ≡ z → All P (x ∷ xs) → list_any (same_attempt b) (x ∷ xs) ≡ true → (list_any (same_attempt b) xs ≡ true → P b) → P b
any-step P b x xs true is all member rest = subst P (sym (one-attempt b x is)) (All-head P x xs all)
any-step P b x xs false is all member rest = rest (rw is at member)

any-of : (P : AttemptId → Type 0) (b : AttemptId) (xs : List AttemptId) → All P xs → list_any (same_attempt b) xs ≡ true → P b
any-of P b [] all member = absurd cc
any-of P b (x ∷ xs) all member = any-step P b x xs (same_attempt b x) refl all member (any-of P b xs (All-tail P x xs all))

-- an attempt behind p doesn't come before the first one behind p
sooner-here : (a x b : AttemptId) (xs : List AttemptId) (z : Bool) → same_attempt b x ≡ z → x ≡ a → Before x xs → list_any (same_attempt b) (x ∷ xs) ≡ true → attempt_before b a ≡ false
sooner-here a x b xs true is same before member = ap (λ (c : AttemptId). attempt_before c a) (one-attempt b x is ∙ same) ∙ not-before a
sooner-here a x b xs false is same before member =
    let later : attempt_before x b ≡ true = any-of (λ y. attempt_before x y ≡ true) b xs (behind-all x xs before) (rw is at member) in
    ap (attempt_before b) (sym same) ∙ never-back x b (attempt_before b x) refl later

sooner-there : (p a x b : AttemptId) (xs : List AttemptId) (z : Bool) → same_attempt b x ≡ z → attempt_before p x ≡ false → list_any (same_attempt b) (x ∷ xs) ≡ true → attempt_before p b ≡ true → (list_any (same_attempt b) xs ≡ true → attempt_before b a ≡ false) → attempt_before b a ≡ false
sooner-there p a x b xs true is apart member behind_p rest = absurd (let here : attempt_before p b ≡ false = ap (attempt_before p) (one-attempt b x is) ∙ apart in cc)
sooner-there p a x b xs false is apart member behind_p rest = rest (rw is at member)

sooner-step : (p a x b : AttemptId) (xs : List AttemptId) (z : Bool) → attempt_before p x ≡ z → Before x xs → first_of (filter (attempt_before p) (x ∷ xs)) ≡ Some a → list_any (same_attempt b) (x ∷ xs) ≡ true → attempt_before p b ≡ true
    → (first_of (filter (attempt_before p) xs) ≡ Some a → list_any (same_attempt b) xs ≡ true → attempt_before b a ≡ false) → attempt_before b a ≡ false
sooner-step p a x b xs true is before found member behind_p rest = let first : Some x ≡ Some a = rw is at found in let same : x ≡ a = cc in sooner-here a x b xs (same_attempt b x) refl same before member
sooner-step p a x b xs false is before found member behind_p rest = sooner-there p a x b xs (same_attempt b x) refl is member behind_p (rest (rw is at found))

none-sooner : (p a b : AttemptId) (xs : List AttemptId) → Rising xs → first_of (filter (attempt_before p) xs) ≡ Some a → list_any (same_attempt b) xs ≡ true → attempt_before p b ≡ true → attempt_before b a ≡ false
unfolding Rising
none-sooner p a b [] rising found member behind_p = absurd cc
none-sooner p a b (x ∷ xs) rising found member behind_p = sooner-step p a x b xs (attempt_before p x) refl rising.0 found member behind_p (λ later more. none-sooner p a b xs rising.1 later more behind_p)

-- ---- an attempt of a quiz is one of the quiz's attempts

listed-step : (b : AttemptId) (q : ℕ) (r : Record) (h : List Record) (s : Start) (y z : Bool) → started r ≡ Some s → same_attempt b s.attempt ≡ y → (s.quiz == q) ≡ z → quiz (r ∷ h) b ≡ Some q
    → (quiz h b ≡ Some q → list_any (same_attempt b) (filter_map (attempt_at q) h) ≡ true) → list_any (same_attempt b) (filter_map (attempt_at q) (r ∷ h)) ≡ true
listed-step b q r h s true true is same of_it told rest = rw (is, of_it, same) refl
listed-step b q r h s true false is same of_it told rest =
    let quiz_is : Some s.quiz ≡ Some q = rw (is, same) at told in
    let alike : s.quiz ≡ q = cc in
    absurd (let test : (s.quiz == q) ≡ true = eq-eqb s.quiz q alike in cc)
listed-step b q r h s false true is same of_it told rest = rw (is, of_it, same) (rest (rw (is, same) at told))
listed-step b q r h s false false is same of_it told rest = rw (is, of_it) (rest (rw (is, same) at told))

listed-by : (b : AttemptId) (q : ℕ) (r : Record) (h : List Record) (o : Option Start) → started r ≡ o → quiz (r ∷ h) b ≡ Some q → (quiz h b ≡ Some q → list_any (same_attempt b) (filter_map (attempt_at q) h) ≡ true) → list_any (same_attempt b) (filter_map (attempt_at q) (r ∷ h)) ≡ true
listed-by b q r h None is told rest = rw is (rest (rw is at told))
listed-by b q r h (Some s) is told rest = listed-step b q r h s (same_attempt b s.attempt) (s.quiz == q) is refl refl told rest

listed : (b : AttemptId) (q : ℕ) (h : List Record) → quiz h b ≡ Some q → list_any (same_attempt b) (filter_map (attempt_at q) h) ≡ true
listed b q [] told = absurd cc
listed b q (r ∷ h) told = listed-by b q r h (started r) refl told (listed b q h)

member : (b : AttemptId) (q : ℕ) (h : List Record) → quiz h b ≡ Some q → list_any (same_attempt b) (in_order attempt_before (filter_map (attempt_at q) h)) ≡ true
member b q h told =
    let xs = filter_map (attempt_at q) h in
    sym (same-id b (in_order attempt_before xs)) ∙ in_order-member id_cmp attempt_before ids_order b xs ∙ same-id b xs ∙ listed b q h told

-- ---- one attempt more is passed

module _ (h : List Record) (q job position : ℕ) (p a : AttemptId) (passed : IsPassed h q job position p) (next : attempt_after h q p ≡ Some a) where
  passed-by : (b : AttemptId) (z : Bool) → attempt_before p b ≡ z → has_left h job position a ≡ false → quiz h b ≡ Some q → attempt_before a b ≡ false → has_left h job position b ≡ false
  passed-by b true is none of_it apart =
      let sooner = none-sooner p a b (in_order attempt_before (filter_map (attempt_at q) h)) (in_order-rises (filter_map (attempt_at q) h)) next (member b q h of_it) is in
      ap (has_left h job position) (sym (one a b apart sooner)) ∙ none
  passed-by b false is none of_it apart = passed.none_left b of_it is

  pub passed-more : has_left h job position a ≡ false → IsPassed h q job position a
  passed-more none = record { none_left = λ b of_it apart. passed-by b (attempt_before p b) refl none of_it apart }

-- fewer are left behind it
pub fewer : (h : List Record) (q : ℕ) (p a : AttemptId) → attempt_after h q p ≡ Some a
    → length (filter (attempt_before a) (in_order attempt_before (filter_map (attempt_at q) h))) < length (filter (attempt_before p) (in_order attempt_before (filter_map (attempt_at q) h)))
fewer h q p a next =
    let xs = in_order attempt_before (filter_map (attempt_at q) h) in
    let split = ap (λ (l : List AttemptId). length l) (behind p a xs (in_order-rises (filter_map (attempt_at q) h)) next) in
    omega arith

-- ---- the first target stands behind those that are passed

filter-step : {A : Type 0} (p b : A → Bool) (x : A) (xs : List A) (y z : Bool) → b x ≡ y → p x ≡ z → (b x ≡ false → p x ≡ false) → filter p xs ≡ filter p (filter b xs) → filter p (x ∷ xs) ≡ filter p (filter b (x ∷ xs))
filter-step p b x xs true true is also only rest = rw (is, also) (ap (λ (l : List _). x ∷ l) rest)
filter-step p b x xs true false is also only rest = rw (is, also) rest
filter-step p b x xs false true is also only rest = absurd (let none = only is in cc)
filter-step p b x xs false false is also only rest = rw (is, also) rest

filter-twice : {A : Type 0} (p b : A → Bool) (xs : List A) → All (λ x. b x ≡ false → p x ≡ false) xs → filter p xs ≡ filter p (filter b xs)
filter-twice p b [] all = refl
filter-twice p b (x ∷ xs) all = filter-step p b x xs (b x) (p x) refl refl (All-head (λ x. b x ≡ false → p x ≡ false) x xs all) (filter-twice p b xs (All-tail (λ x. b x ≡ false → p x ≡ false) x xs all))

some-left : (o : Option ℕ) (k : ℕ) → o ≡ Some k → is_some o ≡ true
some-left None k is = absurd cc
some-left (Some j) k is = refl

module _ (index count : ℕ) (h : List Record) (job q position : ℕ) (p : AttemptId) (legal : IsLegal index count h) (passed : IsPassed h q job position p) where
  first-behind : first_of (filter (has_left h job position) (attempts_of h q)) ≡ first_of (filter (has_left h job position) (filter (attempt_before p) (attempts_of h q)))
  first-behind = ap (λ (l : List AttemptId). first_of l) (filter-twice (has_left h job position) (attempt_before p) (attempts_of h q)
      (All-weaker (OfQuiz h q) (λ a. attempt_before p a ≡ false → has_left h job position a ≡ false) (λ a of_it apart. passed.none_left a of_it apart) (attempts_of h q) (all-of_quiz index count h q legal)))

  pub target-there : (a : AttemptId) (k : ℕ) → attempt_after h q p ≡ Some a → first_left h job position a ≡ Some k → first_of (targets h job q position) ≡ Some (a, k)
  target-there a k next is =
      let some : has_left h job position a ≡ true = some-left (first_left h job position a) k is in
      let split = behind p a (attempts_of h q) (in_order-rises (filter_map (attempt_at q) h)) next in
      let found : first_of (filter (has_left h job position) (a ∷ filter (attempt_before a) (attempts_of h q))) ≡ Some a = rw some refl in
      let first : first_of (filter (has_left h job position) (attempts_of h q)) ≡ Some a = first-behind ∙ ap (λ (l : List AttemptId). first_of (filter (has_left h job position) l)) split ∙ found in
      target-by h job q position (Some a) (sym first) ∙ ap (option_map (λ (j : ℕ). (a, j))) is

  pub no-target : attempt_after h q p ≡ None → first_of (targets h job q position) ≡ None
  no-target none =
      let first : first_of (filter (has_left h job position) (attempts_of h q)) ≡ None =
      first-behind ∙ ap (λ (l : List AttemptId). first_of (filter (has_left h job position) l)) (none-left (filter (attempt_before p) (attempts_of h q)) none) in
      target-by h job q position None (sym first)

pub none-here : (o : Option ℕ) → None ≡ o → is_some o ≡ false
none-here None is = refl
none-here (Some k) is = absurd cc
