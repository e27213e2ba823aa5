-- The first line of a text ends at its first line feed.
use Rattle.std.proofs.Common.{◌≡◌, ℕ, suc, ◌+◌, ◌<◌, Bool, true, false, ◌==◌, List, [], ◌∷◌, length, take, drop, Some, None, refl, ap, subst, arith}
use Rattle.std.specs.List.{position_from, onto_first}
use Rattle.qz_wire.specs.Lines.{lines_of}

abbrev pub is_end : ℕ → Bool
is_end c = c == 10

-- the first line has n bytes, and a line feed behind them
pub record FirstLine (xs : List ℕ) (n : ℕ) : Type 0 where
  pub inside : n < length xs
  pub lines : lines_of xs ≡ take n xs ∷ lines_of (drop (suc n) xs)

first_line-cons : (c : ℕ) (cs : List ℕ) (i k : ℕ) (b : Bool) → is_end c ≡ b → position_from is_end i (c ∷ cs) ≡ Some k
    → (position_from is_end (i + 1) cs ≡ Some k → (n : ℕ) × (k ≡ (i + 1) + n) × FirstLine cs n)
    → (n : ℕ) × (k ≡ i + n) × FirstLine (c ∷ cs) n
first_line-cons c cs i k true ends found later =
    let here = rw ends at found in
    let same : i ≡ k = cc in
    (0, omega arith, record { inside = omega arith; lines = rw ends refl })
first_line-cons c cs i k false goes_on found later =
    let there = rw goes_on at found in
    let rest = later there in
    let inside : suc rest.0 < suc (length cs) = omega (arith, rest.2.inside) in
    (suc rest.0, omega (arith, rest.1), record { inside = inside; lines = rw goes_on (ap (onto_first c) rest.2.lines) })

pub first_line : (xs : List ℕ) (i k : ℕ) → position_from is_end i xs ≡ Some k → (n : ℕ) × (k ≡ i + n) × FirstLine xs n
first_line [] i k found = absurd cc
first_line (c ∷ cs) i k found = first_line-cons c cs i k (is_end c) refl found (first_line cs (i + 1) k)

only_line-cons : (c : ℕ) (cs : List ℕ) (i : ℕ) (b : Bool) → is_end c ≡ b → position_from is_end i (c ∷ cs) ≡ None
    → (position_from is_end (i + 1) cs ≡ None → onto_first c (lines_of cs) ≡ (c ∷ cs) ∷ [])
    → lines_of (c ∷ cs) ≡ (c ∷ cs) ∷ []
only_line-cons c cs i true ends found later = let here = rw ends at found in absurd cc
only_line-cons c cs i false goes_on found later = let there = rw goes_on at found in rw goes_on (later there)

-- with no line feed there is one line
pub only_line : (c : ℕ) (cs : List ℕ) (i : ℕ) → position_from is_end i (c ∷ cs) ≡ None → lines_of (c ∷ cs) ≡ (c ∷ cs) ∷ []
only_line c [] i found = only_line-cons c [] i (is_end c) refl found (λ _. refl)
only_line c (d ∷ ds) i found = only_line-cons c (d ∷ ds) i (is_end c) refl found (λ there. ap (onto_first c) (only_line d ds (i + 1) there))

pub one_line : (xs : List ℕ) → 0 < length xs → position_from is_end 0 xs ≡ None → lines_of xs ≡ xs ∷ []
one_line [] some none = absurd (omega arith)
one_line (c ∷ cs) some none = only_line c cs 0 none

pub first_at : (xs : List ℕ) (k : ℕ) → position_from is_end 0 xs ≡ Some k → FirstLine xs k
first_at xs k found =
    let first = first_line xs 0 k found in
    let same : first.0 ≡ k = omega (arith, first.1) in
    subst (FirstLine xs) same first.2
