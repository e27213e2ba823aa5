use Rattle.qz_solo.proofs.Upholding.{LegalUpTo}
use Rattle.qz_solo.proofs.solo.attest_shards.Given as goal

abbrev pub invariant-loop-shard : goal.invariant-loop-shard
invariant-loop-shard g l = LegalUpTo l.shard-index l.shards
