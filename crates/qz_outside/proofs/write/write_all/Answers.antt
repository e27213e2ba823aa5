use Rattle.qz_outside.proofs.Steps.{writes_more}
use Rattle.qz_outside.proofs.write.write_all.Goals as goal

pub loop-rest-preserved : goal.loop-rest-preserved
loop-rest-preserved g c = writes_more _ _ _ _ _ _ _ _ c.in_ok-count.count c.loop-rest.invariant c.in_ok-count.ensures.bytes c.write.ensures.cause.later
