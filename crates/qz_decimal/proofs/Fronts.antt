-- The longest front of a list whose items pass a test.
use Rattle.std.proofs.Common.{◌≡◌, ℕ, zero, suc, ◌+◌, ◌≤◌, Bool, true, false, cond, List, [], ◌∷◌, ◌++◌, length, take, refl, ◌∙◌, arith, add-zero}
use Rattle.std.specs.List.{prefix_len, list_all}
use Rattle.std.proofs.lemmas.Bool.{and_parts, and_from, eq-eqb}
use Rattle.std.proofs.lemmas.List.Folds.{prefix_len-append}

pub front-passes : (p : ℕ → Bool) (n : ℕ) (text : List ℕ) → n ≤ prefix_len p text → list_all p (take n text) ≡ true
front-passes p zero text le = refl
front-passes p (suc n) [] le = refl
front-passes p (suc n) (b ∷ rest) le = go (p b) refl le (λ le. front-passes p n rest le)
  where
    go : (passes : Bool) → p b ≡ passes → suc n ≤ cond passes (1 + prefix_len p rest) 0 → (n ≤ prefix_len p rest → list_all p (take n rest) ≡ true) → list_all p (take (suc n) (b ∷ rest)) ≡ true
    go true e le others = and_from (p b) (list_all p (take n rest)) e (others (omega arith))
    go false e le others = absurd (omega arith)

prefix_len-all : (p : ℕ → Bool) (text : List ℕ) → list_all p text ≡ true → prefix_len p text ≡ length text
prefix_len-all p [] each = refl
prefix_len-all p (b ∷ rest) each =
    let parts = and_parts (p b) (list_all p rest) each in
    let others = prefix_len-all p rest parts.1 in
    rw parts.0 (omega arith)

-- a front that passes, where the rest doesn't go on with it
pub prefix_len-of : (p : ℕ → Bool) (front rest : List ℕ) → list_all p front ≡ true → prefix_len p rest ≡ 0 → prefix_len p (front ++ rest) ≡ length front
prefix_len-of p front rest each stops =
    prefix_len-append p front rest ∙ rw (prefix_len-all p front each, eq-eqb (length front) (length front) refl, stops) (add-zero (length front))

-- ---- where the front is empty

pub stops-at : (p : ℕ → Bool) (b : ℕ) (rest : List ℕ) → p b ≡ false → prefix_len p (b ∷ rest) ≡ 0
stops-at p b rest e = rw e refl

pub first-fails : (p : ℕ → Bool) (b : ℕ) (rest : List ℕ) → prefix_len p (b ∷ rest) ≡ 0 → p b ≡ false
first-fails p b rest none = go (p b) refl none
  where
    go : (passes : Bool) → p b ≡ passes → cond passes (1 + prefix_len p rest) 0 ≡ 0 → p b ≡ false
    go true e none = absurd (omega arith)
    go false e none = e
