-- What stands in a list.
use Rattle.std.proofs.Common.{◌≡◌, ◌⊎◌, inl, inr, ℕ, zero, suc, ◌+◌, ◌<◌, List, [], ◌∷◌, ◌++◌, Some, length, refl, sym, ap, ◌∙◌, arith}
use Rattle.std.specs.Prelude.{drop, slice_get, slice_index_or}
use Rattle.std.specs.List.{insert}

-- what stands in a list stands in each longer one
pub get_longer : {A : Type 0} (xs ys : List A) (k : ℕ) (y : A) → slice_get xs k ≡ Some y → slice_get (xs ++ ys) k ≡ Some y
get_longer [] ys k y at = absurd cc
get_longer (z ∷ zs) ys zero y at = at
get_longer (z ∷ zs) ys (suc k) y at = get_longer zs ys k y at

pub get_last : {A : Type 0} (xs : List A) (x : A) → slice_get (xs ++ x ∷ []) (length xs) ≡ Some x
get_last [] x = refl
get_last (z ∷ zs) x = get_last zs x

-- what stands in a list with one more at its end
pub get_snoc : {A : Type 0} (xs : List A) (x : A) (k : ℕ) (y : A) → slice_get (xs ++ x ∷ []) k ≡ Some y → (slice_get xs k ≡ Some y) ⊎ ((k ≡ length xs) × (x ≡ y))
get_snoc [] x zero y at = inr (refl, cc)
get_snoc [] x (suc k) y at = absurd cc
get_snoc (z ∷ zs) x zero y at = inl at
get_snoc (z ∷ zs) x (suc k) y at = elim (get_snoc zs x k y at) [ inl there ↦ inl there | inr last ↦ inr (ap suc last.0, last.1) ]

pub first_of_some : {A : Type 0} (xs : List A) (x : A) → 0 < length xs → x ≡ slice_index_or xs 0 x → xs ≡ x ∷ drop 1 xs
first_of_some [] x some is = absurd (omega arith)
first_of_some (y ∷ ys) x some is = ap (λ (z : _). z ∷ ys) (sym is)

-- what stands in two lists, one behind the other
pub record StandsIn {A : Type 0} (xs : List A) (y : A) : Type 0 where
  pub place : ℕ
  pub there : slice_get xs place ≡ Some y

pub get_either : {A : Type 0} (xs ys : List A) (k : ℕ) (y : A) → slice_get (xs ++ ys) k ≡ Some y → StandsIn xs y ⊎ StandsIn ys y
get_either [] ys k y at = inr (record { place = k; there = at })
get_either (z ∷ zs) ys zero y at = inl (record { place = zero; there = at })
get_either (z ∷ zs) ys (suc k) y at = elim (get_either zs ys k y at) [ inl one ↦ inl (record { place = suc one.place; there = one.there }) | inr other ↦ inr other ]

pub get_front : {A : Type 0} (xs ys : List A) (k : ℕ) (y : A) → k < length xs → slice_get (xs ++ ys) k ≡ Some y → slice_get xs k ≡ Some y
get_front [] ys k y within at = absurd (omega (arith, within))
get_front (z ∷ zs) ys zero y within at = at
get_front (z ∷ zs) ys (suc k) y within at = get_front zs ys k y (omega (arith, within)) at

pub get_behind : {A : Type 0} (xs ys : List A) (k : ℕ) → slice_get (xs ++ ys) (length xs + k) ≡ slice_get ys k
get_behind [] ys k = ap (slice_get ys) (omega arith)
get_behind (z ∷ zs) ys k = let e : suc (length zs) + k ≡ suc (length zs + k) = omega arith in ap (slice_get (z ∷ zs ++ ys)) e ∙ get_behind zs ys k

pub insert_behind : {A : Type 0} (xs ys : List A) (x : A) → insert (xs ++ ys) (length xs) x ≡ xs ++ x ∷ ys
insert_behind [] ys x = refl
insert_behind (z ∷ zs) ys x = ap (λ (l : List _). z ∷ l) (insert_behind zs ys x)
