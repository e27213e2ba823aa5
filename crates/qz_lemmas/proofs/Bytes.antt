-- What a search for a byte answers is the place of the first that passes.
use Rattle.std.proofs.Common.{◌≡◌, ℕ, ◌<◌, Bool, false, List, Option, Some, None, length, refl, sym, arith}
use Rattle.std.specs.List.{position, position_or_len}
use Rattle.std.specs.Prelude.{nat_lt}
use Rattle.std.proofs.lemmas.Bool.{false_from_ne_true, lt-ltb}
use Rattle.std.proofs.lemmas.Bool.Decides.{nat_tests}
use Rattle.std.proofs.lemmas.List.Sums.{position_or_len_is}
use Rattle.memchr.specs.Find.{IsFirstByte}

not_below : (n : ℕ) → nat_lt n n ≡ false
not_below n = grind (arith, nat_tests)

pub first_byte : (test : ℕ → Bool) (bytes : List ℕ) (place : Option ℕ) → IsFirstByte test bytes place → place ≡ position test bytes
first_byte test bytes None nowhere =
    let n : position_or_len test bytes ≡ length bytes = position_or_len_is test bytes (length bytes) 0 (omega arith) (λ k below. false_from_ne_true _ (nowhere k (omega arith) below)) (λ below. absurd (omega arith)) in
    sym (rw (n, not_below (length bytes)) refl)
first_byte test bytes (Some k) found =
    let inside : k < length bytes = found.0.high in
    let n : position_or_len test bytes ≡ k = position_or_len_is test bytes k 0 (omega arith) (λ j below. false_from_ne_true _ (found.0.before j (omega arith) below)) (λ below. found.1) in
    sym (rw (n, lt-ltb k (length bytes) inside) refl)
