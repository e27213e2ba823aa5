use Rattle.std.proofs.Common.{◌∙◌, sym, arith}
use Rattle.qz_decimal.proofs.Scales.{exact_size-up, exact_size-down}
use Rattle.qz_decimal.proofs.decimal.exact_size.Goals as goal

pub returns-then-down-up-clause-value : goal.returns-then-down-up-clause-value
returns-then-down-up-clause-value c = c.times_tens.ensures.value ∙ sym (exact_size-up c.args.number c.args.up c.args.down (omega arith))

pub returns-else-down-up-clause-value : goal.returns-else-down-up-clause-value
returns-else-down-up-clause-value c = c.over_tens.ensures.value ∙ sym (exact_size-down c.args.number c.args.up c.args.down (omega arith))
