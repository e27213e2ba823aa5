use Rattle.std.proofs.Common.{take}
use Rattle.qz_stats.specs.Counts.{AreCounts}
use Rattle.qz_stats.specs.Shards.{slots_in}
use Rattle.qz_stats.proofs.picks.counts_of.Given as goal

abbrev pub invariant-loop-slot : goal.invariant-loop-slot
invariant-loop-slot l = AreCounts l.counts (slots_in (take l.slot-index l.slots))
