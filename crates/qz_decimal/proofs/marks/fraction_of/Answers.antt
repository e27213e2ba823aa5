use Rattle.std.proofs.Common.{rules}
use Rattle.qz_decimal.proofs.Nearest.{divided}
use Rattle.qz_decimal.proofs.marks.fraction_of.Goals as goal

pub returns-clause-value : goal.returns-clause-value
returns-clause-value c = divided c.args.max _ _ (rw c.max.view_is at c.if-max-eq0.false) (search rules)
