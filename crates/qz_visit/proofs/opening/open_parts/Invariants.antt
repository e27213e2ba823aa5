use Rattle.std.proofs.Common.{◌≡◌, ◌+◌, ◌≤◌, reverse, vec_len, vec_capacity, length}
use Rattle.qz_visit.specs.Opening.{HalfOpens}
use Rattle.qz_visit.proofs.opening.open_parts.Given as goal

abbrev pub invariant-loop-shard : goal.invariant-loop-shard
invariant-loop-shard g l = HalfOpens g.K.Keeper.faults l.records.lock l.seats (reverse l.fn.shards.items) l.shards.items l.locks.items l.passes.items
    × (l.seen ≡ l.fn.seen)
    × (vec_len l.locks + vec_len l.shards ≤ vec_capacity l.shards)
    × (vec_len l.locks + vec_len l.shards ≤ vec_capacity l.locks)
    × (vec_len l.passes + vec_len l.shards ≤ vec_capacity l.passes)
    × (vec_len l.passes ≡ vec_len l.locks)

abbrev pub decreases-loop-shard : goal.decreases-loop-shard
decreases-loop-shard g l = length l.shards.items
