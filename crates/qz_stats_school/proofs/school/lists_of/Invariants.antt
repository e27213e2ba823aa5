use Rattle.std.proofs.Common.{◌≡◌, take}
use Rattle.qz_loading.specs.Opening.{lists_of}
use Rattle.qz_stats_school.proofs.school.lists_of.Given as goal

abbrev pub invariant-loop-shard : goal.invariant-loop-shard
invariant-loop-shard g l = l.lists.items ≡ lists_of (take l.shard-index l.shards)
