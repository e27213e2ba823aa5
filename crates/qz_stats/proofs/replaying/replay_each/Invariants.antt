use Rattle.std.proofs.Common.{◌≡◌, map, take}
use Rattle.qz_stats.specs.Shards.{replayed}
use Rattle.qz_stats.proofs.replaying.replay_each.Given as goal

abbrev pub invariant-loop-list : goal.invariant-loop-list
invariant-loop-list l = l.shards.items ≡ map (replayed l.quiz) (take l.list-index l.lists)
