use Rattle.qz_solo.specs.Memory.{AreFresh}
use Rattle.qz_solo.proofs.founding.fresh.Given as goal

abbrev pub invariant-loop-index : goal.invariant-loop-index
invariant-loop-index l = AreFresh l.count l.index l.shards.items
