use Rattle.std.proofs.Common.{◌^◌, ◌<◌, ◌≤◌, arith, sym}
use Rattle.qz_decimal.proofs.DigitRuns.{pow10-le}
use Rattle.qz_decimal.proofs.Scales.{pow10-pos, short_quotient-below}
use Rattle.qz_decimal.proofs.decimal.over_tens.Goals as goal

pub returns-then-tens-gt-MOST_DIGITS-clause-value : goal.returns-then-tens-gt-MOST_DIGITS-clause-value
returns-then-tens-gt-MOST_DIGITS-clause-value c =
    let le : 30 ≤ c.args.tens = omega arith in
    let below : c.args.number < 10 ^ c.args.tens = omega (arith, pow10-le le, c.requires.room) in
    sym (short_quotient-below c.args.number (10 ^ c.args.tens) c.requires.some below)

pub pow-divisor-requires : goal.pow-divisor-requires
pow-divisor-requires c = let le : c.args.tens ≤ 30 = omega arith in omega (arith, pow10-le le)

pub nonzero_div-size : goal.nonzero_div-size
nonzero_div-size c = rw c.pow-divisor.ensures (pow10-pos c.args.tens)

pub nonzero_rem-number : goal.nonzero_rem-number
nonzero_rem-number c = rw c.pow-divisor.ensures (pow10-pos c.args.tens)
