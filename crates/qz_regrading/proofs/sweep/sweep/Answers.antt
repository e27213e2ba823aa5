use Rattle.qz_regrading.proofs.Meeting.{meets-more, meets-none}
use Rattle.qz_regrading.proofs.Searching.{below_more, below_none, swept_all}
use Rattle.qz_regrading.proofs.sweep.sweep.Goals as goal

pub loop-shard-init : goal.loop-shard-init
loop-shard-init g c = record { meets = meets-none _ _ _; works = below_none _ _ _ _ }

pub loop-shard-preserved : goal.loop-shard-preserved
loop-shard-preserved g c = record {
  meets = meets-more _ _ _ _ _ _ _ _ _ c.loop-shard.invariant.meets c.sweep_shard.ensures.meets;
  works = below_more _ _ _ _ _ _ _ _ _ c.loop-shard.invariant.works c.sweep_shard.ensures.works;
}

pub returns-then-not-sweep_shard-clause-works : goal.returns-then-not-sweep_shard-clause-works
returns-then-not-sweep_shard-clause-works g c =
    swept_all _ _ _ _ _ c.loop-shard.shard _ _ (c.sweep_shard.ensures.missing c.if-not-sweep_shard.true) (below_more _ _ _ _ _ _ _ _ _ c.loop-shard.invariant.works c.sweep_shard.ensures.works)
