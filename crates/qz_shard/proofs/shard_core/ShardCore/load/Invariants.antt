use Rattle.qz_shard.proofs.LoadLemmas.{IsReadTo}
use Rattle.qz_shard.proofs.shard_core.ShardCore.load.Given as goal

abbrev pub ghosts-take : goal.ghosts-take
ghosts-take a = record { name = a.blank.name; parts = a.blank.parts }

abbrev pub invariant-loop-place : goal.invariant-loop-place
invariant-loop-place l = IsReadTo l.index l.count l.payloads l.place l.shard
