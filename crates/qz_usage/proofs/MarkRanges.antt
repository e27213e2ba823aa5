-- The mark of a slot is in range.
use Rattle.std.proofs.Common.{◌≡◌, ℕ, zero, suc, ◌*◌, ◌≤◌, ℤ, pos, negsuc, ◌*ℤ◌, arith}
use Rattle.std.specs.Prelude.{unsigned_abs, false}
use Rattle.std.specs.Ordering.{int_eq}
use Rattle.std.proofs.lemmas.Int.{ints, unsigned_abs-mul}
use Rattle.std.proofs.lemmas.Nat.{mul-le}
use Rattle.std.proofs.lemmas.Bool.{false_from_ne_true}
use Rattle.std.proofs.lemmas.Bool.Decides.{Decides-int_eq}
use Rattle.qz_decimal.specs.Numbers.{nearest, one, rescale, IsWithin, IsMaxMark, IsSlotMark}
use Rattle.qz_decimal.proofs.Nearest.{nearest-within}

slot_mark-by_size : (z : ℤ) → unsigned_abs z ≤ 60000 * one → IsSlotMark z
slot_mark-by_size z h = (omega (arith, ints, h), omega (arith, ints, h))

rescale-positive : (mark : ℤ) (n : ℕ) (max : ℤ) → IsWithin (pos 0) (pos (suc n)) mark → IsMaxMark max → IsSlotMark (nearest (mark *ℤ max) (suc n))
rescale-positive mark n max between small =
    let mark_le : unsigned_abs mark ≤ suc n = omega (arith, ints, between.0, between.1) in
    let max_le : unsigned_abs max ≤ 60000 * one = omega (arith, ints, small.0, small.1) in
    let product : unsigned_abs (mark *ℤ max) ≤ 60000 * one * suc n = rw unsigned_abs-mul (omega (arith, mul-le (unsigned_abs mark) (unsigned_abs max) (suc n) (60000 * one) mark_le max_le)) in
    slot_mark-by_size (nearest (mark *ℤ max) (suc n)) (nearest-within (mark *ℤ max) (suc n) (60000 * one) (omega arith) product)

some : (n : ℕ) → int_eq (pos (suc n)) (pos 0) ≡ false
some n = false_from_ne_true (int_eq (pos (suc n)) (pos 0)) (λ t. let e : pos (suc n) ≡ pos 0 = (Decides-int_eq (pos (suc n)) (pos 0)).0 t in cc)

pub rescale-within : (mark given max : ℤ) → IsWithin (pos 0) given mark → IsMaxMark max → IsSlotMark (rescale mark given max)
rescale-within mark (pos zero) max between small = (omega (arith, ints), omega (arith, ints))
rescale-within mark (pos (suc n)) max between small = rw some (rescale-positive mark n max between small)
rescale-within mark (negsuc n) max between small = absurd (omega (arith, ints, between.0, between.1))
