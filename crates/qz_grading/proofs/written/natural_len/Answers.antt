use Rattle.std.proofs.Common.{arith}
use Rattle.qz_decimal.proofs.DigitRuns.{pow10-le}
use Rattle.qz_grading.proofs.written.natural_len.Goals as goal

pub nonzero_div-units : goal.nonzero_div-units
nonzero_div-units c = omega (arith, c.pow-one.ensures, pow10-le {i = 0} {k = c.args.places} (omega arith))

pub nonzero_rem-units : goal.nonzero_rem-units
nonzero_rem-units c = omega (arith, c.pow-one.ensures, pow10-le {i = 0} {k = c.args.places} (omega arith))

pub overflow_cast-units : goal.overflow_cast-units
overflow_cast-units c =
    omega (arith, c.pow-one.ensures, pow10-le {i = 0} {k = c.args.places} (omega arith), pow10-le {i = c.args.places} {k = 10} (omega arith))

pub decimals_len-requires-clause-fits : goal.decimals_len-requires-clause-fits
decimals_len-requires-clause-fits c = omega (arith, c.pow-one.ensures, pow10-le {i = 0} {k = c.args.places} (omega arith))
