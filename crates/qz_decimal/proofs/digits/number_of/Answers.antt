use Rattle.std.proofs.Common.{◌≡◌, ◌*◌, ◌+◌, ◌^◌, ◌<◌, ◌≤◌, arith, add-one}
use Rattle.std.proofs.Math.Nat.{pow-suc}
use Rattle.qz_decimal.proofs.DigitRuns.{digit_in_range, pow10-le, digits_value-next}
use Rattle.qz_decimal.proofs.digits.number_of.Goals as goal
use Rattle.qz_decimal.proofs.digits.number_of.Goals.{In-loop-digit}

below : (c : In-loop-digit) → c.loop-digit.number < 10 ^ 36
below c = let le : c.loop-digit.digit-index ≤ 36 = omega arith in omega (arith, pow10-le le, c.loop-digit.invariant.1)

pub overflow_mul-number : goal.overflow_mul-number
overflow_mul-number c = omega (arith, below c)

pub overflow_sub-digit : goal.overflow_sub-digit
overflow_sub-digit c = (digit_in_range c.args.digits.now c.loop-digit.digit-index c.requires.digits c.loop-digit-test.true).0

pub overflow_add-number : goal.overflow_add-number
overflow_add-number c =
    omega (arith, below (goal.at.overflow_add-number c).In-loop-digit, digit_in_range c.args.digits.now c.loop-digit.digit-index c.requires.digits c.loop-digit-test.true, c.from.ensures)

pub loop-digit-preserved : goal.loop-digit-preserved
loop-digit-preserved c =
    let digits = c.args.digits.now in
    let i = c.loop-digit.digit-index in
    let digit = digit_in_range digits i c.requires.digits c.loop-digit-test.true in
    let next = digits_value-next digits i c.requires.digits c.loop-digit-test.true in
    let power : 10 ^ (i + 1) ≡ 10 ^ i * 10 = rw add-one (pow-suc 10 i) in
    (omega (arith, next, c.loop-digit.invariant, c.from.ensures), omega (arith, power, digit, c.loop-digit.invariant, c.from.ensures))
