use Rattle.std.proofs.Common.{length}
use Rattle.qz_visit.proofs.Closed.{JoinedFrom}
use Rattle.qz_visit.proofs.closing.join_parts.Given as goal

abbrev pub invariant-loop-other : goal.invariant-loop-other
invariant-loop-other g l = JoinedFrom l.initial.passes.items l.initial.others.items l.passes.items l.others.items

abbrev pub decreases-loop-other : goal.decreases-loop-other
decreases-loop-other g l = length l.others.items
