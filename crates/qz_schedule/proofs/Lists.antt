-- Lists of which one item is exchanged, and beginnings of lists.
use mathlib.Core.List.{IsPrefix}
use Rattle.std.proofs.Common.{◌≡◌, ◌⊎◌, inl, inr, ℕ, zero, suc, ◌<◌, List, [], ◌∷◌, ◌++◌, Option, Some, length, replicate, map, refl, sym, ap, ◌∙◌, append_assoc, append-nil, arith}
use Rattle.std.specs.Prelude.{option_to_list, slice_get, slice_set, unwrap_or}

-- ---- beginnings

pub whole-begins : {A : Type 0} (l : List A) → IsPrefix l l
whole-begins l = ([], append-nil l)

pub none-begins : {A : Type 0} (l : List A) → IsPrefix [] l
none-begins l = (l, refl)

pub begins-on : {A : Type 0} (a b c : List A) → IsPrefix a b → IsPrefix b c → IsPrefix a c
begins-on a b c p q = (p.0 ++ q.0, sym (append_assoc a p.0 q.0) ∙ (ap (λ (l : List _). l ++ q.0) p.1 ∙ q.1))

pub begins-adding : {A : Type 0} (a b : List A) (o : Option A) → b ≡ a ++ option_to_list o → IsPrefix a b
begins-adding a b o is = (option_to_list o, sym is)

pub no-longer : {A : Type 0} (l : List A) (x : A) → l ≡ l ++ x ∷ [] → ⊥
no-longer [] x is = absurd cc
no-longer (y ∷ l) x is = no-longer l x cc

pub some-same : {A : Type 0} (x y : A) → Some x ≡ Some y → x ≡ y
some-same x y is = cc

-- ---- the item at a place, or else the other

abbrev pub at : {A : Type 0} → A → List A → ℕ → A
at d xs k = unwrap_or (slice_get xs k) d

-- what holds of the new item, and of each item before
pub set-each : {A : Type 0} (d : A) (P : ℕ → A → Type 0) (xs : List A) (k j : ℕ) (x : A) → P k x → P j (at d xs j) → P j (at d (slice_set xs k x) j)
set-each d P [] k j x new old = old
set-each d P (y ∷ xs) zero zero x new old = new
set-each d P (y ∷ xs) zero (suc j) x new old = old
set-each d P (y ∷ xs) (suc k) zero x new old = old
set-each d P (y ∷ xs) (suc k) (suc j) x new old = set-each d (λ n. P (suc n)) xs k j x new old

pub set-at : {A : Type 0} (d : A) (xs : List A) (k : ℕ) (x : A) → k < length xs → at d (slice_set xs k x) k ≡ x
set-at d [] k x inside = absurd (omega arith)
set-at d (y ∷ xs) zero x inside = refl
set-at d (y ∷ xs) (suc k) x inside = set-at d xs k x (let more : suc k < suc (length xs) = inside in omega arith)

-- ---- one item more at the end

pub get-push : {A : Type 0} (xs : List A) (x y : A) (i : ℕ) → slice_get (xs ++ x ∷ []) i ≡ Some y → (slice_get xs i ≡ Some y) ⊎ (x ≡ y)
get-push [] x y zero is = let same : x ≡ y = cc in inr same
get-push [] x y (suc i) is = absurd cc
get-push (z ∷ xs) x y zero is = inl is
get-push (z ∷ xs) x y (suc i) is = get-push xs x y i is

-- ---- the same item everywhere

pub replicate-at : {A : Type 0} (n : ℕ) (x : A) (k : ℕ) → at x (replicate n x) k ≡ x
replicate-at zero x k = refl
replicate-at (suc n) x zero = refl
replicate-at (suc n) x (suc k) = replicate-at n x k

pub replicate-get : {A : Type 0} (n : ℕ) (x y : A) (k : ℕ) → slice_get (replicate n x) k ≡ Some y → x ≡ y
replicate-get zero x y k is = absurd cc
replicate-get (suc n) x y zero is = let same : x ≡ y = cc in same
replicate-get (suc n) x y (suc k) is = replicate-get n x y k is

pub replicate-length : {A : Type 0} (n : ℕ) (x : A) → length (replicate n x) ≡ n
replicate-length zero x = refl
replicate-length (suc n) x = ap suc (replicate-length n x)

pub mapped-get : {A B : Type 0} (y : B) (xs : List A) (z : B) (k : ℕ) → slice_get (map (λ (x : A). y) xs) k ≡ Some z → y ≡ z
mapped-get y [] z k is = absurd cc
mapped-get y (x ∷ xs) z zero is = let same : y ≡ z = cc in same
mapped-get y (x ∷ xs) z (suc k) is = mapped-get y xs z k is
