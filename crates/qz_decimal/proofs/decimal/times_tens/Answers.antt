use Rattle.std.proofs.Common.{◌-◌, ◌*◌, ◌^◌, ◌<◌, ◌≤◌, arith, sym}
use Rattle.qz_decimal.proofs.DigitRuns.{pow10-le}
use Rattle.qz_decimal.proofs.Scales.{long-by_tens, long-by_digits, short-by_digits, short_size-long, short_size-short}
use Rattle.qz_decimal.proofs.decimal.times_tens.Goals as goal
use Rattle.qz_decimal.proofs.decimal.times_tens.Goals.{After-pow-2}

pub returns-then-tens-gt-SIZE_DIGITS-clause-value : goal.returns-then-tens-gt-SIZE_DIGITS-clause-value
returns-then-tens-gt-SIZE_DIGITS-clause-value c = sym (short_size-long (c.args.number * 10 ^ c.args.tens) (long-by_tens c.args.number c.args.tens c.requires (omega arith)))

pub pow-requires : goal.pow-requires
pow-requires c = let le : 25 - c.args.tens ≤ 25 = omega arith in omega (arith, pow10-le le)

pub returns-then-number-pow-clause-value : goal.returns-then-number-pow-clause-value
returns-then-number-pow-clause-value c = sym (short_size-long (c.args.number * 10 ^ c.args.tens) (long-by_digits c.args.number c.args.tens c.if-tens-gt-SIZE_DIGITS.false (omega arith)))

pub pow-requires-2 : goal.pow-requires-2
pow-requires-2 c = let le : c.args.tens ≤ 25 = omega arith in omega (arith, pow10-le le)

short : (c : After-pow-2) → c.args.number * c.pow-2.result < 10 ^ 25
short c = rw c.pow-2.ensures (short-by_digits c.args.number c.args.tens c.if-tens-gt-SIZE_DIGITS.false (omega arith))

pub overflow_mul-result : goal.overflow_mul-result
overflow_mul-result c = omega (arith, short c)

pub returns : goal.returns
returns c =
    let few = short c in
    record { value = sym (rw (← c.pow-2.ensures) (short_size-short (c.args.number * c.pow-2.result) few)); room = few }
