use Rattle.std.proofs.Common.{◌≡◌, ◌≤◌, take}
use Rattle.std.specs.Prelude.{flat_map, fold, max}
use Rattle.qz_stats.specs.Shards.{shard_counts}
use Rattle.qz_stats.proofs.slots.most_slots.Given as goal

abbrev pub invariant-loop-shard : goal.invariant-loop-shard
invariant-loop-shard l = (l.most ≡ fold max 0 (flat_map shard_counts (take l.shard-index l.shards))) × (l.most ≤ 200)
