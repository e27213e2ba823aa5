use Rattle.std.proofs.Common.{take}
use Rattle.qz_stats.specs.Shards.{slots_in}
use Rattle.qz_stats.specs.Sums.{AreSums}
use Rattle.qz_stats.proofs.marks.marks_of.Given as goal

abbrev pub invariant-loop-slot : goal.invariant-loop-slot
invariant-loop-slot l = AreSums l.sums (slots_in (take l.slot-index l.slots))
