-- Lists in an order, in which each item comes before those behind it.
use Rattle.std.proofs.Common.{◌≡◌, ℕ, zero, suc, ◌+◌, ◌<◌, ◌≤◌, inl, inr, Bool, true, false, ◌&&◌, ◌||◌, List, [], ◌∷◌, ◌++◌, length, length-drop, length-take, take, drop, set, get_or, refl, sym, ap, ◌∙◌, arith, All, append-nil}
use Rattle.std.specs.List.{AllPairs}
use Rattle.std.specs.List.Sorted.{IsPartitionPoint, IsPartitionedBy}
use Rattle.std.specs.Prelude.{filter, nat_lt, ◌==◌, slice_get}
use Rattle.std.proofs.Math.Seq.{drop-nil}
use Rattle.std.proofs.lemmas.Bool.{cases_eq}
use Rattle.std.proofs.lemmas.Bool.Decides.{nat_tests}
use Rattle.std.proofs.lemmas.List.{get_or-drop, get_or-take, take-append-drop}
use Rattle.std.proofs.lemmas.List.Elements.{All-cons, All-head, All-tail, filter-append}
use Rattle.std.proofs.lemmas.List.Kept.{AllPairs-cons}
use Rattle.qz_terms.specs.Lists.{first_of, in_order, placed}

-- ---- pairs of items

module _ {A : Type 0} (R : A → A → Type 0) where
  pub pairs-first : (x : A) (xs : List A) → AllPairs R (x ∷ xs) → All (R x) xs
  pairs-first x xs h k d within = h zero (suc k) d (omega arith) (omega arith)

  pub pairs-rest : (x : A) (xs : List A) → AllPairs R (x ∷ xs) → AllPairs R xs
  pairs-rest x xs h i j d less within = h (suc i) (suc j) d (omega arith) (omega arith)

  pub pairs-drop : (n : ℕ) (xs : List A) → AllPairs R xs → AllPairs R (drop n xs)
  pairs-drop n xs h i j d less within =
      let long = length-drop n xs in
      rw (get_or-drop n xs i d, get_or-drop n xs j d) (h (n + i) (n + j) d (omega arith) (omega arith))

-- one more item between the others
pub all-between : {A : Type 0} (P : A → Type 0) (x : A) (xs ys : List A) → All P (xs ++ ys) → P x → All P (xs ++ x ∷ ys)
all-between P x [] ys all one = All-cons P x ys one all
all-between P x (z ∷ xs) ys all one = All-cons P z (xs ++ x ∷ ys) (All-head P z (xs ++ ys) all) (all-between P x xs ys (All-tail P z (xs ++ ys) all) one)

pub pairs-between : {A : Type 0} (R : A → A → Type 0) (x : A) (xs ys : List A) → AllPairs R (xs ++ ys) → All (λ y. R y x) xs → All (R x) ys → AllPairs R (xs ++ x ∷ ys)
pairs-between R x [] ys h front behind = AllPairs-cons R x ys behind h
pairs-between R x (z ∷ xs) ys h front behind =
    AllPairs-cons R z (xs ++ x ∷ ys) (all-between (R z) x xs ys (pairs-first R z (xs ++ ys) h) (All-head (λ y. R y x) z xs front)) (pairs-between R x xs ys (pairs-rest R z (xs ++ ys) h) (All-tail (λ y. R y x) z xs front) behind)

-- ---- a test that some first items pass, and no others

module _ {A : Type 0} (p : A → Bool) where
  pub filter-all : (xs : List A) → All (λ x. p x ≡ true) xs → filter p xs ≡ xs
  filter-all [] all = refl
  filter-all (x ∷ xs) all =
      let first : p x ≡ true = All-head (λ y. p y ≡ true) x xs all in
      rw first (ap (λ (l : List A). x ∷ l) (filter-all xs (All-tail (λ y. p y ≡ true) x xs all)))

  pub filter-none : (xs : List A) → All (λ x. p x ≡ false) xs → filter p xs ≡ []
  filter-none [] all = refl
  filter-none (x ∷ xs) all =
      let first : p x ≡ false = All-head (λ y. p y ≡ false) x xs all in
      rw first (filter-none xs (All-tail (λ y. p y ≡ false) x xs all))

  pub parted_by : (R : A → A → Type 0) → ((x y : A) → R x y → p y ≡ true → p x ≡ true) → (xs : List A) → AllPairs R xs → IsPartitionedBy p xs
  parted_by R down xs h i j d le within is = elim (cases_eq i j) [
    | inl same ↦ rw same is
    | inr apart ↦ down (get_or xs i d) (get_or xs j d) (h i j d (omega arith) within) is
  ]

  module _ (xs : List A) (i : ℕ) (inside : i ≤ length xs) (point : IsPartitionPoint (λ y. p y ≡ true) (λ y. p y ≡ false) xs i) where
    pub parted-front : All (λ y. p y ≡ true) (take i xs)
    parted-front k d within = let long = length-take i xs in let less : k < i = omega arith in rw (get_or-take i xs k d less) (point.0 k d (omega arith) less)

    pub parted-behind : All (λ y. p y ≡ false) (drop i xs)
    parted-behind k d within = let long = length-drop i xs in rw (get_or-drop i xs k d) (point.1 (i + k) d (omega arith) (omega arith))

    pub parted-filter : filter p xs ≡ take i xs
    parted-filter = ap (filter p) (sym (take-append-drop i xs)) ∙ filter-append p (take i xs) (drop i xs) ∙ rw (filter-all (take i xs) parted-front, filter-none (drop i xs) parted-behind) (append-nil (take i xs))

-- ---- the place of an item

pub slice_get-first : {A : Type 0} (xs : List A) (i : ℕ) → slice_get xs i ≡ first_of (drop i xs)
slice_get-first {A = A} [] i = rw (drop-nil {A = A} i) refl
slice_get-first (x ∷ xs) zero = refl
slice_get-first (x ∷ xs) (suc i) = slice_get-first xs i

pub set-split : {A : Type 0} (xs : List A) (i : ℕ) (x y : A) (rest : List A) → drop i xs ≡ x ∷ rest → set xs i y ≡ take i xs ++ y ∷ rest
set-split {A = A} [] i x y rest is = let none = drop-nil {A = A} i in absurd cc
set-split {A = A} (z ∷ xs) zero x y rest is = let same : xs ≡ rest = cc in ap (λ (l : List A). y ∷ l) same
set-split {A = A} (z ∷ xs) (suc i) x y rest is = ap (λ (l : List A). z ∷ l) (set-split xs i x y rest is)

module _ {A : Type 0} (before : A → A → Bool) where
  pub placed-first : (x : A) (xs : List A) → All (λ y. before x y ≡ true) xs → placed before x xs ≡ x ∷ xs
  placed-first x [] all = refl
  placed-first x (y ∷ ys) all = let first : before x y ≡ true = All-head (λ z. before x z ≡ true) y ys all in rw first refl

  -- a list in order stays as it is
  pub in_order-same : (xs : List A) → AllPairs (λ x y. before x y ≡ true) xs → in_order before xs ≡ xs
  in_order-same [] h = refl
  in_order-same (x ∷ xs) h = ap (placed before x) (in_order-same xs (pairs-rest (λ x y. before x y ≡ true) x xs h)) ∙ placed-first x xs (pairs-first (λ x y. before x y ≡ true) x xs h)

  -- an item is put behind those that come before it
  pub placed-between : (x : A) (xs ys : List A) → All (λ y. before y x ≡ true) xs → All (λ y. before x y ≡ false) xs → All (λ y. before x y ≡ true) ys → placed before x (xs ++ ys) ≡ xs ++ x ∷ ys
  placed-between x [] ys front none behind = placed-first x ys behind
  placed-between x (z ∷ xs) ys front none behind =
      let first : before z x ≡ true = All-head (λ y. before y x ≡ true) z xs front in
      let not_behind : before x z ≡ false = All-head (λ y. before x y ≡ false) z xs none in
      rw (not_behind, first) (ap (λ (l : List A). z ∷ l) (placed-between x xs ys (All-tail (λ y. before y x ≡ true) z xs front) (All-tail (λ y. before x y ≡ false) z xs none) behind))

-- ---- three numbers, one after the other

abbrev pub lesser : ℕ → ℕ → ℕ → ℕ → ℕ → ℕ → Bool
lesser q u n r v m = nat_lt q r || ((q == r) && (nat_lt u v || ((u == v) && nat_lt n m)))

abbrev pub equal : ℕ → ℕ → ℕ → ℕ → ℕ → ℕ → Bool
equal q u n r v m = (q == r) && ((u == v) && (n == m))

pub lesser-trans : (q u n r v m s w k : ℕ) → lesser q u n r v m ≡ true → lesser r v m s w k ≡ true → lesser q u n s w k ≡ true
lesser-trans q u n r v m s w k first second = grind (arith, nat_tests)

pub lesser-never : (q u n r v m : ℕ) → lesser q u n r v m ≡ true → lesser r v m q u n ≡ false
lesser-never q u n r v m is = grind (arith, nat_tests)

pub lesser-apart : (q u n r v m : ℕ) → lesser q u n r v m ≡ true → equal q u n r v m ≡ false
lesser-apart q u n r v m is = grind (arith, nat_tests)

pub greater-apart : (q u n r v m : ℕ) → lesser r v m q u n ≡ true → equal q u n r v m ≡ false
greater-apart q u n r v m is = grind (arith, nat_tests)

pub lesser-other : (q u n r v m : ℕ) → lesser q u n r v m ≡ false → equal q u n r v m ≡ false → lesser r v m q u n ≡ true
lesser-other q u n r v m is apart = grind (arith, nat_tests)

pub lesser-equal : (q u n r v m s w k : ℕ) → equal q u n r v m ≡ true → lesser q u n s w k ≡ true → lesser r v m s w k ≡ true
lesser-equal q u n r v m s w k same is = grind (arith, nat_tests)

-- the first two numbers alone
pub earlier : (q u r v m s w k : ℕ) → lesser r v m s w k ≡ true → nat_lt s q || ((s == q) && nat_lt w u) ≡ true → nat_lt r q || ((r == q) && nat_lt v u) ≡ true
earlier q u r v m s w k is more = grind (arith, nat_tests)

pub earlier-other : (q u r v : ℕ) → nat_lt r q || ((r == q) && nat_lt v u) ≡ true → (r == q) && (v == u) ≡ false
earlier-other q u r v is = grind (arith, nat_tests)

pub not_earlier : (q u r v m s w k : ℕ) → lesser r v m s w k ≡ true → nat_lt r q || ((r == q) && nat_lt v u) ≡ false → (s == q) && (w == u) ≡ true → (r == q) && (v == u) ≡ true
not_earlier q u r v m s w k is late same = grind (arith, nat_tests)

pub numbered : (q u r v m s w k : ℕ) → lesser r v m s w k ≡ true → (r == q) && (v == u) ≡ true → (s == q) && (w == u) ≡ true → nat_lt m k ≡ true
numbered q u r v m s w k is first second = grind (arith, nat_tests)
