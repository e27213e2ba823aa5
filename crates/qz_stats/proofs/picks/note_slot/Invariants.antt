use Rattle.qz_stats.specs.Counts.{HasNoted}
use Rattle.qz_stats.specs.Shards.{slot_in}
use Rattle.qz_stats.proofs.picks.note_slot.Given as goal

abbrev pub invariant-loop-number : goal.invariant-loop-number
invariant-loop-number l = HasNoted l.initial.counts l.counts (slot_in l.slot) l.number
