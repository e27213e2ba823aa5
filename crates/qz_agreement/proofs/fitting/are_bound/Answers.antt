use Rattle.qz_agreement.proofs.Tested.{bounds-decide-each}
use Rattle.qz_agreement.proofs.fitting.are_bound.Goals as goal

pub returns-then-bounds-slots : goal.returns-then-bounds-slots
returns-then-bounds-slots c = bounds-decide-each c.args.position c.args.slots.now c.args.bounds.now c.all_bind.result c.if-bounds-slots.true c.all_bind.ensures
