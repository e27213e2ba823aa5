-- What stands before and behind a place.
use Rattle.std.proofs.Common.{◌≡◌, ℕ, zero, suc, ◌-◌, ◌<◌, ◌≤◌, Bool, true, false, cond, not, ◌&&◌, ◌||◌, [], ◌∷◌, length, take, drop, get_or, refl, ap, arith, eqb}
use Rattle.std.proofs.lemmas.Bool.{ne_eqb}
use Rattle.std.proofs.lemmas.List.{take_rest}
use Rattle.std.proofs.lemmas.List.Folds.{list_all_at}
use Rattle.gift_lex.specs.declared.block.Piece.{Piece}
use Rattle.gift_read.specs.Places.{Marks, before, from, occurs, is_last, is_space, are_blank}

-- there is a place where something stands from it on
pub occurs-from : (here : Marks → Bool) (marks : Marks) → occurs here marks ≡ not (eqb (length (from here marks)) 0)
occurs-from here [] = refl
occurs-from here (m ∷ marks) = go (here (m ∷ marks)) (occurs-from here marks)
  where
    go : (b : Bool) → occurs here marks ≡ not (eqb (length (from here marks)) 0) → (b || occurs here marks) ≡ not (eqb (length (cond b (m ∷ marks) (from here marks))) 0)
    go true later = rw (ne_eqb (length (m ∷ marks)) 0 (λ e. omega arith)) refl
    go false later = later

pub from-length : (here : Marks → Bool) (marks : Marks) → length (from here marks) ≤ length marks
from-length here [] = omega arith
from-length here (m ∷ marks) = go (here (m ∷ marks)) (from-length here marks)
  where
    go : (b : Bool) → length (from here marks) ≤ length marks → length (cond b (m ∷ marks) (from here marks)) ≤ length (m ∷ marks)
    go true later = omega arith
    go false later = omega arith

-- what stands before a place is as long as it leaves
pub before-take : (here : Marks → Bool) (marks : Marks) → before here marks ≡ take (length marks - length (from here marks)) marks
before-take here [] = refl
before-take here (m ∷ marks) = go (here (m ∷ marks)) (before-take here marks)
  where
    go : (b : Bool) → before here marks ≡ take (length marks - length (from here marks)) marks
        → cond b [] (m ∷ before here marks) ≡ take (length (m ∷ marks) - length (cond b (m ∷ marks) (from here marks))) (m ∷ marks)
    go true later = let e : length (m ∷ marks) - length (m ∷ marks) ≡ 0 = omega arith in rw e refl
    go false later =
        let e : length (m ∷ marks) - length (from here marks) ≡ suc (length marks - length (from here marks)) = omega (arith, from-length here marks) in rw e (ap (λ t. m ∷ t) later)

-- where there is no place, nothing stands from the last on
pub from_last-none : (here : Marks → Bool) (marks : Marks) → from (is_last here) marks ≡ cond (occurs here marks) (from (is_last here) marks) []
from_last-none here [] = refl
from_last-none here (m ∷ marks) = go (here (m ∷ marks)) (occurs here marks) (from_last-none here marks)
  where
    go : (h o : Bool) → from (is_last here) marks ≡ cond o (from (is_last here) marks) []
        → cond (h && not o) (m ∷ marks) (from (is_last here) marks) ≡ cond (h || o) (cond (h && not o) (m ∷ marks) (from (is_last here) marks)) []
    go true o later = refl
    go false true later = refl
    go false false later = later

-- one mark further, the last place so far is this one, where the test holds
pub last_further : (here : Marks → Bool) (whole found rest : Marks) → 0 < length rest → here rest ≡ true
    → whole ≡ cond (occurs here rest) (from (is_last here) rest) found
    → whole ≡ cond (occurs here (take (length rest - 1) (drop 1 rest))) (from (is_last here) (take (length rest - 1) (drop 1 rest))) rest
last_further here whole found [] some holds e = absurd (omega arith)
last_further here whole found (m ∷ marks) some holds e =
    rw (take_rest (m ∷ marks) 1) (go (occurs here marks) (rw holds at e))
  where
    go : (b : Bool) → whole ≡ cond (true && not b) (m ∷ marks) (from (is_last here) marks) → whole ≡ cond b (from (is_last here) marks) (m ∷ marks)
    go true e = e
    go false e = e

-- marks up to the last that is no white space
pub before_blank-take : (marks : Marks) (n : ℕ) (d : Piece) → n ≤ length marks → are_blank (drop n marks) ≡ true → (0 < n → is_space (get_or marks (n - 1) d) ≡ false) → before are_blank marks ≡ take n marks
before_blank-take [] zero d fits blank ink = refl
before_blank-take [] (suc n) d fits blank ink = absurd (omega arith)
before_blank-take (m ∷ marks) zero d fits blank ink = rw blank refl
before_blank-take (m ∷ marks) (suc n) d fits blank ink =
    let same : suc n - 1 ≡ n = omega arith in
    let last = rw same at (ink (omega arith)) in
    let some : are_blank (m ∷ marks) ≡ false = list_all_at is_space (m ∷ marks) n d (omega arith) last in
    let later = before_blank-take marks n d (omega arith) blank (λ lt. behind n lt last) in
    rw some (ap (λ t. m ∷ t) later)
  where
    behind : (n : ℕ) → 0 < n → is_space (get_or (m ∷ marks) n d) ≡ false → is_space (get_or marks (n - 1) d) ≡ false
    behind zero lt e = absurd (omega arith)
    behind (suc k) lt e = let same : suc k - 1 ≡ k = omega arith in rw same e
