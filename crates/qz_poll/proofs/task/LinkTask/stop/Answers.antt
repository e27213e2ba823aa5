use Rattle.qz_poll.proofs.Stops.{stops_as}
use Rattle.qz_poll.proofs.task.LinkTask.stop.Goals as goal

pub unreachable-requires : goal.unreachable-requires
unreachable-requires g c = rw c.in_default.is at c.requires

pub returns-clause-ends : goal.returns-clause-ends
returns-clause-ends g c = rw c.ended.ensures (rw c.in-Some.is (stops_as _ _ c.in-Some.serving))
