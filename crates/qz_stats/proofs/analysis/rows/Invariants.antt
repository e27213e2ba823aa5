use Rattle.std.proofs.Common.{◌≡◌, map}
use Rattle.qz_terms.specs.Lists.{places_to}
use Rattle.qz_stats.specs.Shards.{shard_row}
use Rattle.qz_stats.proofs.analysis.rows.Given as goal

abbrev pub invariant-loop-place : goal.invariant-loop-place
invariant-loop-place l = l.items.items ≡ map (shard_row l.shards) (places_to l.place)
