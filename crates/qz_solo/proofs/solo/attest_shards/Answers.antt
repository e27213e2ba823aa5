use Rattle.std.proofs.Common.{arith}
use Rattle.qz_solo.proofs.Standing.{part_there}
use Rattle.qz_solo.proofs.Upholding.{legal_all, legal_more}
use Rattle.qz_solo.proofs.solo.attest_shards.Goals as goal

pub loop-shard-preserved : goal.loop-shard-preserved
loop-shard-preserved g c = legal_more c.loop-shard.shard-index c.args.shards.now c.shard-item.result (part_there c.args.shards.now c.loop-shard.shard-index c.shard-item.result c.loop-shard-test.true c.shard-item.is) c.loop-shard.invariant (record { legal = c.len-length.ensures.legal; records = c.len-length.ensures.records })

pub returns : goal.returns
returns g c = legal_all c.loop-shard.shard-index c.args.shards.now (omega (arith, c.loop-shard-test.false)) c.loop-shard.invariant
