use Rattle.std.proofs.Common.{◌≡◌, map, take}
use Rattle.qz_terms.specs.Answer.{bind}
use Rattle.qz_shard.proofs.starting.bounds_of.Given as goal

abbrev pub invariant-loop-slot : goal.invariant-loop-slot
invariant-loop-slot l = l.items.items ≡ map (bind l.plan.at) (take l.slot-index l.slots)
