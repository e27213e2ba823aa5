-- Attempts in order, those of them that pass with their totals, and one of them that is told anew.
use Rattle.std.proofs.Common.{◌≡◌, ℕ, ltb, Bool, true, false, not, ◌&&◌, ◌||◌, List, [], ◌∷◌, ◌++◌, Option, None, map, refl, sym, ap, subst, ◌∙◌, arith, eq-eqb, All}
use Rattle.std.specs.List.{AllPairs}
use Rattle.std.specs.Prelude.{ℤ, filter, ◌==◌, nat_lt}
use Rattle.std.proofs.lemmas.Bool.Decides.{nat_tests}
use Rattle.std.proofs.lemmas.List.Elements.{All-cons, All-filter, All-head, All-map, All-tail, All-weaker}
use Rattle.std.proofs.lemmas.List.Kept.{AllPairs-cons, AllPairs-filter}
use Rattle.qz_gradebook.specs.declared.finished.Finished.{Finished}
use Rattle.qz_gradebook.specs.Totals.{comes_before, is_attempt, is_by, is_there, numbered_before, total_at, totals_of, with_total}
use Rattle.qz_gradebook.specs.Totals as totals
use Rattle.qz_gradebook.proofs.OrderLemmas.{filter-all, in_order-same, pairs-first, pairs-rest, placed-first}
use Rattle.qz_gradebook.proofs.TotalLemmas.{Ordered}
use Rattle.qz_grading.specs.declared.refusal.AttemptId.{AttemptId}
use Rattle.qz_terms.specs.Lists.{in_order, placed}
use Rattle.qz_terms.specs.History.{attempt_before, same_attempt}
use Rattle.qz_lives.proofs.Effects.{one-attempt}
use Rattle.qz_lives.proofs.Following.{flip, self-same}
use Rattle.qz_lives.proofs.Members.{Earlier, in-order-rise, is_among}
use Rattle.qz_lives.proofs.Orders.{before-after, never-both, one}

-- an attempt of a quiz with its total
abbrev pub rated : ℕ → (AttemptId → Option ℤ) → AttemptId → Finished
rated q t a = record { quiz = q; attempt = a; total = t a }

-- those that pass, with their totals
abbrev pub rated_of : ℕ → (AttemptId → Option ℤ) → (AttemptId → Bool) → List AttemptId → List Finished
rated_of q t p xs = map (rated q t) (filter p xs)

not-less : (q : ℕ) → ltb q q ≡ false
not-less q = grind (arith, nat_tests)

-- at one quiz the order is that of the attempts
rated-before : (q : ℕ) (s t : AttemptId → Option ℤ) (a b : AttemptId) → comes_before (rated q s a) (rated q t b) ≡ attempt_before a b
rated-before q s t a b = rw (not-less q, eq-eqb q q refl) refl

never-back : (b c : AttemptId) (z : Bool) → attempt_before c b ≡ z → attempt_before b c ≡ true → z ≡ false
never-back b c true is before = absurd (never-both b c before is)
never-back b c false is before = refl

rated-order : (q : ℕ) (t : AttemptId → Option ℤ) (xs : List AttemptId) → AllPairs Earlier xs → AllPairs Ordered (map (rated q t) xs)
rated-order q t [] order = λ i j d less within. absurd (omega arith)
rated-order q t (x ∷ xs) order =
    AllPairs-cons Ordered (rated q t x) (map (rated q t) xs)
    (All-map (Ordered (rated q t x)) (rated q t) xs (All-weaker (Earlier x) (λ y. Ordered (rated q t x) (rated q t y)) (λ y is. rated-before q t t x y ∙ is) xs (pairs-first Earlier x xs order)))
    (rated-order q t xs (pairs-rest Earlier x xs order))

-- ---- where each is told as before

-- an attempt passes as before, with the total that it had
abbrev pub IsAsBefore : (AttemptId → Option ℤ) → (AttemptId → Option ℤ) → (AttemptId → Bool) → (AttemptId → Bool) → AttemptId → Type 0
IsAsBefore s t p r b = (r b ≡ p b) × (t b ≡ s b)

module _ (q : ℕ) (s t : AttemptId → Option ℤ) (p r : AttemptId → Bool) where
  as-before-by : (x : AttemptId) (xs : List AttemptId) (z : Bool) → p x ≡ z → IsAsBefore s t p r x → rated_of q t r xs ≡ rated_of q s p xs → rated_of q t r (x ∷ xs) ≡ rated_of q s p (x ∷ xs)
  as-before-by x xs true is same rest =
      let now : r x ≡ true = same.0 ∙ is in
      rw (is, now) (ap (λ (f : Finished). f ∷ rated_of q t r xs) (ap (λ (o : Option ℤ). record { quiz = q; attempt = x; total = o }) same.1) ∙ ap (λ (fs : List Finished). rated q s x ∷ fs) rest)
  as-before-by x xs false is same rest =
      let now : r x ≡ false = same.0 ∙ is in
      rw (is, now) rest

  pub as-before : (xs : List AttemptId) → All (IsAsBefore s t p r) xs → rated_of q t r xs ≡ rated_of q s p xs
  as-before [] all = refl
  as-before (x ∷ xs) all = as-before-by x xs (p x) refl (All-head (IsAsBefore s t p r) x xs all) (as-before xs (All-tail (IsAsBefore s t p r) x xs all))

  -- ---- where one is told anew

  module _ (a : AttemptId) (passes : r a ≡ true) (same : (b : AttemptId) → same_attempt a b ≡ false → IsAsBefore s t p r b) where
    abbrev new : Finished
    new = rated q t a

    abbrev others : List AttemptId → List Finished
    others xs = filter (λ f. not (is_attempt q a f)) (rated_of q s p xs)

    is-it : (b : AttemptId) (z : Bool) → same_attempt a b ≡ z → is_attempt q a (rated q s b) ≡ z
    is-it b true is = rw (eq-eqb q q refl) (ap (λ (c : AttemptId). same_attempt b c) (one-attempt a b is) ∙ self-same b)
    is-it b false is = rw (eq-eqb q q refl) (flip a b is)

    -- one that isn't it
    others-apart : (b : AttemptId) (xs : List AttemptId) (z : Bool) → p b ≡ z → same_attempt a b ≡ false → others (b ∷ xs) ≡ (rated_of q t r (b ∷ []) ++ others xs)
    others-apart b xs true is apart =
        let told = same b apart in
        let now : r b ≡ true = told.0 ∙ is in
        let isnt : is_attempt q a (rated q s b) ≡ false = is-it b false apart in
        rw (is, now, isnt) (ap (λ (o : Option ℤ). record { quiz = q; attempt = b; total = o } ∷ others xs) (sym told.1))
    others-apart b xs false is apart =
        let told = same b apart in
        let now : r b ≡ false = told.0 ∙ is in
        rw (is, now) refl

    others-same : (b : AttemptId) (xs : List AttemptId) (z : Bool) → p b ≡ z → same_attempt a b ≡ true → others (b ∷ xs) ≡ others xs
    others-same b xs true is one = let it : is_attempt q a (rated q s b) ≡ true = is-it b true one in rw (is, it) refl
    others-same b xs false is one = rw is refl

    rated-cons : (b : AttemptId) (xs : List AttemptId) (z : Bool) → r b ≡ z → rated_of q t r (b ∷ xs) ≡ rated_of q t r (b ∷ []) ++ rated_of q t r xs
    rated-cons b xs true is = rw is refl
    rated-cons b xs false is = rw is refl

    others-none : (xs : List AttemptId) → All (λ b. same_attempt a b ≡ false) xs → others xs ≡ rated_of q t r xs
    others-none [] all = refl
    others-none (b ∷ xs) all =
        others-apart b xs (p b) refl (All-head (λ c. same_attempt a c ≡ false) b xs all)
        ∙ ap (λ (fs : List Finished). rated_of q t r (b ∷ []) ++ fs) (others-none xs (All-tail (λ c. same_attempt a c ≡ false) b xs all))
        ∙ sym (rated-cons b xs (r b) refl)

    never-it : (b : AttemptId) (z : Bool) → same_attempt a b ≡ z → attempt_before a b ≡ true → z ≡ false
    never-it b true is before = absurd (let one = one-attempt a b is in let self : attempt_before a a ≡ true = ap (attempt_before a) one ∙ before in never-both a a self self)
    never-it b false is before = refl

    -- all others behind it
    placed-here : (xs : List AttemptId) → All (Earlier a) xs → placed comes_before new (rated_of q t r xs) ≡ new ∷ rated_of q t r xs
    placed-here xs all = placed-first comes_before new (rated_of q t r xs) (All-map (λ f. comes_before new f ≡ true) (rated q t) (filter r xs) (All-weaker (Earlier a) (λ b. comes_before new (rated q t b) ≡ true) (λ b is. rated-before q t t a b ∙ is) (filter r xs) (All-filter r (Earlier a) xs all)))

    placed-behind : (b : AttemptId) (fs : List Finished) (z : Bool) → r b ≡ z → attempt_before b a ≡ true → placed comes_before new (rated_of q t r (b ∷ []) ++ fs) ≡ rated_of q t r (b ∷ []) ++ placed comes_before new fs
    placed-behind b fs true is before =
        let later : comes_before new (rated q t b) ≡ false = rated-before q t t a b ∙ never-back b a (attempt_before a b) refl before in
        let sooner : comes_before (rated q t b) new ≡ true = rated-before q t t b a ∙ before in
        rw (is, later, sooner) refl
    placed-behind b fs false is before = rw is refl

    member-rest : (b : AttemptId) (xs : List AttemptId) → same_attempt a b ≡ false → is_among a (b ∷ xs) ≡ true → is_among a xs ≡ true
    member-rest b xs apart member = rw apart at member

    before-member-by : (b c : AttemptId) (xs : List AttemptId) (z : Bool) → same_attempt a c ≡ z → All (Earlier b) (c ∷ xs) → is_among a (c ∷ xs) ≡ true → (is_among a xs ≡ true → attempt_before b a ≡ true) → attempt_before b a ≡ true
    before-member-by b c xs true is all member rest = ap (attempt_before b) (one-attempt a c is) ∙ All-head (Earlier b) c xs all
    before-member-by b c xs false is all member rest = rest (member-rest c xs is member)

    before-member : (b : AttemptId) (xs : List AttemptId) → All (Earlier b) xs → is_among a xs ≡ true → attempt_before b a ≡ true
    before-member b [] all member = absurd cc
    before-member b (c ∷ xs) all member = before-member-by b c xs (same_attempt a c) refl all member (λ there. before-member b xs (All-tail (Earlier b) c xs all) there)

    anew-by : (b : AttemptId) (xs : List AttemptId) (z : Bool) → same_attempt a b ≡ z → AllPairs Earlier (b ∷ xs) → is_among a (b ∷ xs) ≡ true → (is_among a xs ≡ true → placed comes_before new (others xs) ≡ rated_of q t r xs) → placed comes_before new (others (b ∷ xs)) ≡ rated_of q t r (b ∷ xs)
    anew-by b xs true is order member rest =
        let one : a ≡ b = one-attempt a b is in
        let behind : All (Earlier a) xs = subst (λ (c : AttemptId). All (Earlier c) xs) (sym one) (pairs-first Earlier b xs order) in
        let apart : All (λ c. same_attempt a c ≡ false) xs = All-weaker (Earlier a) (λ c. same_attempt a c ≡ false) (λ c before. never-it c (same_attempt a c) refl before) xs behind in
        let first : rated_of q t r (a ∷ xs) ≡ new ∷ rated_of q t r xs = rw passes refl in
        ap (placed comes_before new) (others-same b xs (p b) refl is ∙ others-none xs apart) ∙ placed-here xs behind ∙ sym first ∙ ap (λ (c : AttemptId). rated_of q t r (c ∷ xs)) one
    anew-by b xs false is order member rest =
        let there = member-rest b xs is member in
        let before = before-member b xs (pairs-first Earlier b xs order) there in
        ap (placed comes_before new) (others-apart b xs (p b) refl is) ∙ placed-behind b (others xs) (r b) refl before
        ∙ ap (λ (fs : List Finished). rated_of q t r (b ∷ []) ++ fs) (rest there) ∙ sym (rated-cons b xs (r b) refl)

    anew : (xs : List AttemptId) → AllPairs Earlier xs → is_among a xs ≡ true → placed comes_before new (others xs) ≡ rated_of q t r xs
    anew [] order member = absurd cc
    anew (b ∷ xs) order member = anew-by b xs (same_attempt a b) refl order member (λ there. anew xs (pairs-rest Earlier b xs order) there)

    -- a total that is put
    pub told-anew : (xs : List AttemptId) → AllPairs Earlier xs → is_among a xs ≡ true → with_total q a (t a) (rated_of q s p xs) ≡ rated_of q t r xs
    told-anew xs order member =
        ap (placed comes_before new) (in_order-same comes_before (others xs) (AllPairs-filter Ordered (λ f. not (is_attempt q a f)) (rated_of q s p xs) (rated-order q s (filter p xs) (AllPairs-filter Earlier p xs order))))
        ∙ anew xs order member

-- ---- one more attempt that doesn't pass

module _ (p : AttemptId → Bool) where
  passed-over-by : (x y : AttemptId) (ys : List AttemptId) (b c d : Bool) → attempt_before x y ≡ b → attempt_before y x ≡ c → p y ≡ d → p x ≡ false → filter p (placed attempt_before x ys) ≡ filter p ys → filter p (placed attempt_before x (y ∷ ys)) ≡ filter p (y ∷ ys)
  passed-over-by x y ys true c d is also passes fails rest = rw (is, fails) refl
  passed-over-by x y ys false true true is also passes fails rest = rw (is, also, passes) (ap (λ (zs : List AttemptId). y ∷ zs) rest)
  passed-over-by x y ys false true false is also passes fails rest = rw (is, also, passes) rest
  passed-over-by x y ys false false d is also passes fails rest = rw (is, also) refl

  -- of those in order that pass, it is none
  passed-over : (x : AttemptId) (ys : List AttemptId) → p x ≡ false → filter p (placed attempt_before x ys) ≡ filter p ys
  passed-over x [] fails = rw fails refl
  passed-over x (y ∷ ys) fails = passed-over-by x y ys (attempt_before x y) (attempt_before y x) (p y) refl refl refl fails (passed-over x ys fails)

  behind-both : (x y : AttemptId) (ys : List AttemptId) → attempt_before x y ≡ true → AllPairs Earlier (y ∷ ys) → All (Earlier x) (y ∷ ys)
  behind-both x y ys is order = All-cons (Earlier x) y ys is (All-weaker (Earlier y) (Earlier x) (λ z more. before-after x y z is more) ys (pairs-first Earlier y ys order))

  passed-among-by : (x y : AttemptId) (ys : List AttemptId) (b c d : Bool) → attempt_before x y ≡ b → attempt_before y x ≡ c → p y ≡ d → p x ≡ true → AllPairs Earlier (y ∷ ys) → filter p (placed attempt_before x ys) ≡ placed attempt_before x (filter p ys) → filter p (placed attempt_before x (y ∷ ys)) ≡ placed attempt_before x (filter p (y ∷ ys))
  passed-among-by x y ys true c d is also passes holds order rest =
      let first : filter p (placed attempt_before x (y ∷ ys)) ≡ x ∷ filter p (y ∷ ys) = rw (is, holds) refl in
      first ∙ sym (placed-first attempt_before x (filter p (y ∷ ys)) (All-filter p (Earlier x) (y ∷ ys) (behind-both x y ys is order)))
  passed-among-by x y ys false true true is also passes holds order rest = rw (is, also, passes, is, also) (ap (λ (zs : List AttemptId). y ∷ zs) rest)
  passed-among-by x y ys false true false is also passes holds order rest = rw (is, also, passes) rest
  passed-among-by x y ys false false d is also passes holds order rest =
      let there : p y ≡ true = ap p (sym (one x y is also)) ∙ holds in
      rw (is, also, there, is, also) refl

  passed-among : (x : AttemptId) (ys : List AttemptId) → p x ≡ true → AllPairs Earlier ys → filter p (placed attempt_before x ys) ≡ placed attempt_before x (filter p ys)
  passed-among x [] holds order = rw holds refl
  passed-among x (y ∷ ys) holds order = passed-among-by x y ys (attempt_before x y) (attempt_before y x) (p y) refl refl refl holds order (passed-among x ys holds (pairs-rest Earlier y ys order))

  one-more-by : (x b : AttemptId) (xs : List AttemptId) (z : Bool) → p x ≡ z → filter p (in_order attempt_before (xs ++ b ∷ [])) ≡ filter p (in_order attempt_before xs) → filter p (in_order attempt_before ((x ∷ xs) ++ b ∷ [])) ≡ filter p (in_order attempt_before (x ∷ xs))
  one-more-by x b xs true is rest =
      passed-among x (in_order attempt_before (xs ++ b ∷ [])) is (in-order-rise (xs ++ b ∷ [])) ∙ ap (placed attempt_before x) rest ∙ sym (passed-among x (in_order attempt_before xs) is (in-order-rise xs))
  one-more-by x b xs false is rest = passed-over x (in_order attempt_before (xs ++ b ∷ [])) is ∙ rest ∙ sym (passed-over x (in_order attempt_before xs) is)

  pub one-more : (b : AttemptId) (xs : List AttemptId) → p b ≡ false → filter p (in_order attempt_before (xs ++ b ∷ [])) ≡ filter p (in_order attempt_before xs)
  one-more b [] fails = rw fails refl
  one-more b (x ∷ xs) fails = one-more-by x b xs (p x) refl (one-more b xs fails)

-- ---- what is read of a row

by-number : (u n v m k : ℕ) → nat_lt u v || ((u == v) && nat_lt n m) ≡ true → u ≡ k → v ≡ k → nat_lt n m ≡ true
by-number u n v m k is first second = grind (arith, nat_tests)

module _ (q u : ℕ) (t : AttemptId → Option ℤ) where
  of-user : (a : AttemptId) → a.user ≡ u → is_by q u (rated q t a) ≡ true
  of-user a is = rw (eq-eqb q q refl, eq-eqb a.user u is) refl

  numbered-all : (xs : List AttemptId) → AllPairs Earlier xs → All (λ a. a.user ≡ u) xs → AllPairs (λ a b. numbered_before a b ≡ true) (map (rated q t) xs)
  numbered-all [] order users = λ i j d less within. absurd (omega arith)
  numbered-all (x ∷ xs) order users =
      let first : x.user ≡ u = All-head (λ a. a.user ≡ u) x xs users in
      let rest = All-tail (λ a. a.user ≡ u) x xs users in
      let behind = pairs-first Earlier x xs order in
      AllPairs-cons (λ a b. numbered_before a b ≡ true) (rated q t x) (map (rated q t) xs)
      (All-map (λ b. numbered_before (rated q t x) b ≡ true) (rated q t) xs (λ k d within. by-number x.user x.nth _ _ u (behind k d within) first (rest k d within)))
      (numbered-all xs (pairs-rest Earlier x xs order) rest)

  totals-all : (xs : List AttemptId) → map totals.total (map (rated q t) xs) ≡ map t xs
  totals-all [] = refl
  totals-all (x ∷ xs) = ap (λ (ts : List (Option ℤ)). t x ∷ ts) (totals-all xs)

  -- the totals that a grade is made of
  pub totals-rated : (p : AttemptId → Bool) (xs : List AttemptId) → AllPairs Earlier xs → All (λ a. a.user ≡ u) xs → totals_of (rated_of q t p xs) q u ≡ map t (filter p xs)
  totals-rated p xs order users =
      let their = All-filter p (λ a. a.user ≡ u) xs users in
      let all : filter (is_by q u) (rated_of q t p xs) ≡ rated_of q t p xs = filter-all (is_by q u) (rated_of q t p xs) (All-map (λ f. is_by q u f ≡ true) (rated q t) (filter p xs) (All-weaker (λ a. a.user ≡ u) (λ a. is_by q u (rated q t a) ≡ true) of-user (filter p xs) their)) in
      let ordered = numbered-all (filter p xs) (AllPairs-filter Earlier p xs order) their in
      ap (map totals.total) (ap (in_order numbered_before) all ∙ in_order-same numbered_before (rated_of q t p xs) ordered) ∙ totals-all (filter p xs)

module _ (q : ℕ) (t : AttemptId → Option ℤ) (p : AttemptId → Bool) (a : AttemptId) where
  it-is : (b : AttemptId) → is_attempt q a (rated q t b) ≡ same_attempt b a
  it-is b = rw (eq-eqb q q refl) refl

  -- one that passes stands there, with its total
  stands-by : (b : AttemptId) (xs : List AttemptId) (z y : Bool) → same_attempt a b ≡ z → p b ≡ y → p a ≡ true → is_among a (b ∷ xs) ≡ true
      → (is_among a xs ≡ true → (is_there q a (rated_of q t p xs) ≡ true) × (total_at q a (rated_of q t p xs) ≡ t a))
      → (is_there q a (rated_of q t p (b ∷ xs)) ≡ true) × (total_at q a (rated_of q t p (b ∷ xs)) ≡ t a)
  stands-by b xs true true is also passes member rest =
      let same = one-attempt a b is in
      let it : is_attempt q a (rated q t b) ≡ true = it-is b ∙ ap (λ (c : AttemptId). same_attempt c a) (sym same) ∙ self-same a in
      (rw (also, it) refl, rw (also, it) (ap t (sym same)))
  stands-by b xs true false is also passes member rest = absurd (let same = one-attempt a b is in let both : p a ≡ false = ap p same ∙ also in cc)
  stands-by b xs false true is also passes member rest =
      let isnt : is_attempt q a (rated q t b) ≡ false = it-is b ∙ flip a b is in
      let there = rest (rw is at member) in
      (rw (also, isnt) there.0, rw (also, isnt) there.1)
  stands-by b xs false false is also passes member rest = let there = rest (rw is at member) in (rw also there.0, rw also there.1)

  pub stands : (xs : List AttemptId) → p a ≡ true → is_among a xs ≡ true → (is_there q a (rated_of q t p xs) ≡ true) × (total_at q a (rated_of q t p xs) ≡ t a)
  stands [] passes member = absurd cc
  stands (b ∷ xs) passes member = stands-by b xs (same_attempt a b) (p b) refl refl passes member (λ there. stands xs passes there)

  -- one that doesn't pass is nowhere
  missing-by : (b : AttemptId) (xs : List AttemptId) (z y : Bool) → same_attempt a b ≡ z → p b ≡ y → p a ≡ false → total_at q a (rated_of q t p xs) ≡ None → total_at q a (rated_of q t p (b ∷ xs)) ≡ None
  missing-by b xs true true is also fails rest = absurd (let same = one-attempt a b is in let both : p a ≡ true = ap p same ∙ also in cc)
  missing-by b xs false true is also fails rest = let isnt : is_attempt q a (rated q t b) ≡ false = it-is b ∙ flip a b is in rw (also, isnt) rest
  missing-by b xs z false is also fails rest = rw also rest

  pub missing : (xs : List AttemptId) → p a ≡ false → total_at q a (rated_of q t p xs) ≡ None
  missing [] fails = refl
  missing (b ∷ xs) fails = missing-by b xs (same_attempt a b) (p b) refl refl fails (missing xs fails)
