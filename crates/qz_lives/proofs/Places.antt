-- Runs by their places.
use Rattle.std.proofs.Common.{◌≡◌, ℕ, zero, suc, ◌-◌, Bool, true, false, List, [], ◌∷◌, Option, Some, None, length, refl, sym, ap, arith}
use Rattle.std.specs.Prelude.{◌==◌, if◌then◌else◌, is_some, slice_get, slice_set}
use Rattle.std.proofs.lemmas.Bool.{eqb-false}
use Rattle.qz_grading.specs.Grading.{at_place}
use Rattle.qz_usage.specs.Runs.{Run}
use Rattle.qz_usage.specs.Usages.{with_slot}

pub same-item : {A : Type 0} (o : Option A) (x y : A) → o ≡ Some x → o ≡ Some y → x ≡ y
same-item o x y one two = cc

set-here : {A : Type 0} (xs : List A) (i : ℕ) (x y : A) → slice_get xs i ≡ Some x → slice_get (slice_set xs i y) i ≡ Some y
set-here [] i x y is = absurd cc
set-here (z ∷ zs) zero x y is = refl
set-here (z ∷ zs) (suc i) x y is = set-here zs i x y is

set-apart : {A : Type 0} (xs : List A) (i j : ℕ) (y : A) → (i ≡ j → ⊥) → slice_get (slice_set xs i y) j ≡ slice_get xs j
set-apart [] i j y apart = refl
set-apart (z ∷ zs) zero zero y apart = absurd (apart refl)
set-apart (z ∷ zs) zero (suc j) y apart = refl
set-apart (z ∷ zs) (suc i) zero y apart = refl
set-apart (z ∷ zs) (suc i) (suc j) y apart = set-apart zs i j y (λ same. apart (ap suc same))

length-set : {A : Type 0} (xs : List A) (i : ℕ) (y : A) → length (slice_set xs i y) ≡ length xs
length-set [] i y = refl
length-set (z ∷ zs) zero y = refl
length-set (z ∷ zs) (suc i) y = ap suc (length-set zs i y)

with-here-by : (xs : List Run) (k : ℕ) (x y : Run) (z : Bool) → (k == 0) ≡ z → (if z then None else slice_get xs (k - 1)) ≡ Some x → at_place (if z then xs else slice_set xs (k - 1) y) k ≡ Some y
with-here-by xs k x y true is there = absurd cc
with-here-by xs k x y false is there = rw is (set-here xs (k - 1) x y there)

pub with-here : (xs : List Run) (k : ℕ) (x y : Run) → at_place xs k ≡ Some x → at_place (with_slot xs k y) k ≡ Some y
with-here xs k x y there = with-here-by xs k x y (k == 0) refl there

with-apart-by : (xs : List Run) (k j : ℕ) (y : Run) (z w : Bool) → (k == 0) ≡ z → (j == 0) ≡ w → (j == k) ≡ false → (if w then None else slice_get (if z then xs else slice_set xs (k - 1) y) (j - 1)) ≡ (if w then None else slice_get xs (j - 1))
with-apart-by xs k j y z true is also apart = refl
with-apart-by xs k j y true false is also apart = refl
with-apart-by xs k j y false false is also apart = set-apart xs (k - 1) (j - 1) y (λ same. eqb-false j k apart (let one = eqb-false k 0 is in let two = eqb-false j 0 also in minus-one j k two one (sym same)))
  where
    minus-one : (m n : ℕ) → (m ≡ 0 → ⊥) → (n ≡ 0 → ⊥) → m - 1 ≡ n - 1 → m ≡ n
    minus-one zero n some more same = absurd (some refl)
    minus-one (suc m) zero some more same = absurd (more refl)
    minus-one (suc m) (suc n) some more same = omega arith

pub with-apart : (xs : List Run) (k j : ℕ) (y : Run) → (j == k) ≡ false → at_place (with_slot xs k y) j ≡ at_place xs j
with-apart xs k j y apart = with-apart-by xs k j y (k == 0) (j == 0) refl refl apart

length-with-by : (xs : List Run) (k : ℕ) (y : Run) (z : Bool) → length (if z then xs else slice_set xs (k - 1) y) ≡ length xs
length-with-by xs k y true = refl
length-with-by xs k y false = length-set xs (k - 1) y

pub length-with : (xs : List Run) (k : ℕ) (y : Run) → length (with_slot xs k y) ≡ length xs
length-with xs k y = length-with-by xs k y (k == 0)

-- two lists of one length have items at the same places
get-alike : {A B : Type 0} (xs : List A) (ys : List B) (i : ℕ) → length xs ≡ length ys → is_some (slice_get xs i) ≡ is_some (slice_get ys i)
get-alike [] [] i same = refl
get-alike [] (y ∷ ys) i same = absurd (omega arith)
get-alike (x ∷ xs) [] i same = absurd (omega arith)
get-alike (x ∷ xs) (y ∷ ys) zero same = refl
get-alike (x ∷ xs) (y ∷ ys) (suc i) same = get-alike xs ys i (omega arith)

place-alike-by : {A B : Type 0} (xs : List A) (ys : List B) (k : ℕ) (z : Bool) → length xs ≡ length ys → is_some (if z then None else slice_get xs (k - 1)) ≡ is_some (if z then None else slice_get ys (k - 1))
place-alike-by xs ys k true same = refl
place-alike-by xs ys k false same = get-alike xs ys (k - 1) same

pub place-alike : {A B : Type 0} (xs : List A) (ys : List B) (k : ℕ) → length xs ≡ length ys → is_some (at_place xs k) ≡ is_some (at_place ys k)
place-alike xs ys k same = place-alike-by xs ys k (k == 0) same
