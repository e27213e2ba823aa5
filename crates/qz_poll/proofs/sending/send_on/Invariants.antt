use Rattle.std.proofs.Common.{length}
use Rattle.qz_poll.specs.Outsides.{outside_of}
use Rattle.qz_poll.specs.Steps.{SendsOn}
use Rattle.qz_poll.proofs.sending.send_on.Given as goal

abbrev pub invariant-loop-link : goal.invariant-loop-link
invariant-loop-link g l = SendsOn (outside_of g.L.ReadyLink l.fn.link) (outside_of g.L.ReadyLink l.link) l.fn.outbox l.outbox

abbrev pub decreases-loop-link : goal.decreases-loop-link
decreases-loop-link g l = length l.outbox
