use Rattle.std.proofs.Common.{ap}
use Rattle.qz_terms.specs.History.{start_by}
use Rattle.qz_index.proofs.OrderLemmas.{orders-other, orders-put}
use Rattle.qz_index.proofs.StartLemmas.{no_start}
use Rattle.qz_index.proofs.orders.Orders.put.Goals as goal

pub returns-in-Started : goal.returns-in-Started
returns-in-Started c = orders-put c.args.self.now c.start.new.self c.args.records.now c.args.record.now _ c.requires.ordered (ap (start_by c.args.record.now) c.in-Started.is) c.start.ensures

pub returns-in_default : goal.returns-in_default
returns-in_default c = orders-other c.args.self.now c.args.records.now c.args.record.now c.requires.ordered (no_start c.args.record.now c.args.record.now.event c.in_default.not-Started)
