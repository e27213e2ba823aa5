use Rattle.qz_decimal.proofs.Weights.{weight-found, weight-none}
use Rattle.qz_decimal.proofs.units.Fraction.of_percent.Goals as goal

pub returns-clause-found : goal.returns-clause-found
returns-clause-found c = rw c.read_weight.ensures (weight-found c.args.text.now)

pub returns-clause-none : goal.returns-clause-none
returns-clause-none c = rw c.read_weight.ensures (weight-none c.args.text.now)
