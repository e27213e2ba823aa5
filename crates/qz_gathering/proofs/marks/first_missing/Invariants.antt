use Rattle.qz_gathering.proofs.Missing.{SetBefore}
use Rattle.qz_gathering.proofs.marks.first_missing.Given as goal

abbrev pub invariant-loop-shard : goal.invariant-loop-shard
invariant-loop-shard l = SetBefore l.marks l.shard
