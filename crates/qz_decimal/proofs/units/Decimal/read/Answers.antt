use Rattle.qz_decimal.proofs.DecimalTexts.{decimal-found, decimal-none}
use Rattle.qz_decimal.proofs.units.Decimal.read.Goals as goal

pub returns-clause-found : goal.returns-clause-found
returns-clause-found c = rw c.read_decimal.ensures (decimal-found c.args.text.now)

pub returns-clause-none : goal.returns-clause-none
returns-clause-none c = rw c.read_decimal.ensures (decimal-none c.args.text.now)
