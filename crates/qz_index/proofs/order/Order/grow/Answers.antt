use Rattle.qz_index.specs.Orders.{key_of}
use Rattle.qz_index.proofs.order.Order.grow.Goals as goal

pub returns-clause-same : goal.returns-clause-same
returns-clause-same c = λ a. c.make.ensures.same (key_of a)
