-- How long numbers are written.
use Rattle.std.proofs.Common.{◌≡◌, ℕ, ◌+◌, ◌-◌, ◌/◌, ◌%◌, ◌^◌, ◌<◌, ◌≤◌, List, [], ◌∷◌, length, replicate, ap, ◌∙◌, arith}
use Rattle.std.specs.Fmt.{decimal}
use Rattle.std.proofs.lemmas.Fmt.{decimal_step_wide, decimal_digit, length-decimal-le, length-decimal-le_wide}
use Rattle.std.proofs.lemmas.List.{length-append, length-replicate}
use Rattle.qz_grading.specs.Words.{behind_point, in_digits}

pub length-in_digits : (k n : ℕ) → 0 < k → n < 10 ^ k → n < 2 ^ 64 → length (in_digits k n) ≡ k
length-in_digits k n places small fits =
    omega (arith, length-append (replicate (k - length (decimal n)) 48) (decimal n), length-replicate {A = ℕ} (k - length (decimal n)) 48, length-decimal-le k n places small fits)

pub length-behind_point : (ds : List ℕ) → 0 < length ds → length (behind_point ds) ≡ 1 + length ds
length-behind_point [] some = absurd (omega arith)
length-behind_point (d ∷ ds) some = omega arith

-- one digit more
pub length-decimal-step : (n : ℕ) → 10 ≤ n → n < 2 ^ 128 → length (decimal n) ≡ length (decimal (n / 10)) + 1
length-decimal-step n long fits = ap length (decimal_step_wide n long (omega arith)) ∙ length-append (decimal (n / 10)) ((48 + n % 10) ∷ [])

pub length-decimal-one : (n : ℕ) → n < 10 → length (decimal n) ≡ 1
length-decimal-one n short = ap length (decimal_digit n short)

pub length-decimal-few : (n : ℕ) → n < 2 ^ 128 → length (decimal n) ≤ 39
length-decimal-few n fits = length-decimal-le_wide 39 n (omega arith) (omega arith) (omega arith)
