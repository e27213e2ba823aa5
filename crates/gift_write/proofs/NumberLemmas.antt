-- Weights in percent: a weight has two places fewer than a number of percent has units.
use Rattle.std.proofs.Common.{◌≡◌, ℕ, suc, ◌-◌, ◌*◌, ◌/◌, ◌%◌, ◌^◌, ◌<◌, Bool, true, false, ◌==◌, List, ◌++◌, refl, sym, ap, ◌∙◌, arith, ℤ, pos, negsuc, neg_ℤ, ◌*ℤ◌, codes}
use Rattle.std.specs.Fmt.{decimal}
use Rattle.std.proofs.lemmas.Bool.{eqb-true, eqb-false}
use Rattle.qz_grading.specs.Words.{in_digits, without_zeros, behind_point, short_natural, short_number}
use Rattle.qz_grading.proofs.DigitLemmas.{drop_zero, no_decimals}

-- a zero more at the end, and one place more
place_more : (k n : ℕ) → 0 < n → n * 10 < 2 ^ 64 → without_zeros (in_digits k n) ≡ without_zeros (in_digits (suc k) (n * 10))
place_more k n some wide =
    let less : suc k - 1 ≡ k = omega arith in
    let tenth : n * 10 / 10 ≡ n = omega arith in
    rw (less, tenth) at (drop_zero (suc k) (n * 10) (omega arith) (omega arith) wide (omega arith))

five_more : (m : ℕ) → 0 < m → m < 10 ^ 5 → without_zeros (in_digits 10 (m * 100000)) ≡ without_zeros (in_digits 5 m)
five_more m some fits =
    let all : m * 10 * 10 * 10 * 10 * 10 ≡ m * 100000 = omega arith in
    rw (← all) (sym (place_more 5 m some (omega arith)
    ∙ place_more 6 (m * 10) (omega arith) (omega arith)
    ∙ place_more 7 (m * 10 * 10) (omega arith) (omega arith)
    ∙ place_more 8 (m * 10 * 10 * 10) (omega arith) (omega arith)
    ∙ place_more 9 (m * 10 * 10 * 10 * 10) (omega arith) (omega arith)))

percents : (m : ℕ) → m < 10 ^ 5 → without_zeros (in_digits 10 (m * 100000)) ≡ without_zeros (in_digits 5 m)
percents m fits = go (m == 0) refl
  where
    go : (b : Bool) → (m == 0) ≡ b → without_zeros (in_digits 10 (m * 100000)) ≡ without_zeros (in_digits 5 m)
    go true e = rw (eqb-true m 0 e) (no_decimals 10 ∙ sym (no_decimals 5))
    go false e = let some = eqb-false m 0 e in five_more m (omega arith) fits

percent_size : (n : ℕ) → short_natural 10 (n * 100000) ≡ short_natural 5 n
percent_size n =
    let whole : n * 100000 / 10 ^ 10 ≡ n / 10 ^ 5 = omega arith in
    let part : n * 100000 % 10 ^ 10 ≡ n % 10 ^ 5 * 100000 = omega arith in
    ap (λ w. decimal w ++ behind_point (without_zeros (in_digits 10 (n * 100000 % 10 ^ 10)))) whole
    ∙ ap (λ p. decimal (n / 10 ^ 5) ++ behind_point (without_zeros (in_digits 10 p))) part
    ∙ ap (λ (t : List ℕ). decimal (n / 10 ^ 5) ++ behind_point t) (percents (n % 10 ^ 5) (omega arith))

below_zero : (m n : ℕ) → m ≡ suc n → neg_ℤ (pos m) ≡ negsuc n
below_zero m n e = rw e refl

times_percent : (n : ℕ) → negsuc n *ℤ pos 100000 ≡ negsuc (suc n * 100000 - 1)
times_percent n = below_zero (suc n * 100000) (suc n * 100000 - 1) (omega arith)

pub short_number-percent : (weight : ℤ) → short_number 10 (weight *ℤ pos 100000) ≡ short_number 5 weight
short_number-percent (pos n) = percent_size n
short_number-percent (negsuc n) =
    let back : suc (suc n * 100000 - 1) ≡ suc n * 100000 = omega arith in
    rw (times_percent n) (ap (λ t. codes "-" ++ t) (ap (short_natural 10) back ∙ percent_size (suc n)))
