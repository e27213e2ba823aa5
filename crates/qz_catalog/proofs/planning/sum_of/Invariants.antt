use Rattle.qz_catalog.proofs.Plans.{IsAdded}
use Rattle.std.proofs.Common.{take}
use Rattle.qz_catalog.proofs.planning.sum_of.Given as goal

abbrev pub invariant-loop-slot : goal.invariant-loop-slot
invariant-loop-slot l = IsAdded (take l.slot-index l.slots) l.slot-index l.sum
