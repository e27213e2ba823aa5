-- Numbers that are compared.
use Rattle.std.proofs.Common.{◌≡◌, ℕ, true, arith}
use Rattle.std.specs.Ordering.{is_eq, nat_cmp}
use Rattle.std.specs.Prelude.{◌==◌}
use Rattle.std.proofs.lemmas.Bool.Decides.{nat_tests}

pub number-same : (n : ℕ) → (n == n) ≡ true
number-same n = grind (arith, nat_tests)

pub number-turned : (m n : ℕ) → (m == n) ≡ (n == m)
number-turned m n = grind (arith, nat_tests)

pub number-tie : (m n : ℕ) → is_eq (nat_cmp m n) ≡ (m == n)
number-tie m n = grind (arith, nat_tests)
