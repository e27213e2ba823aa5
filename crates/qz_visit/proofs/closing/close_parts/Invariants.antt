use Rattle.std.proofs.Common.{◌≡◌, ◌+◌, ◌≤◌, length}
use Rattle.std.specs.Prelude.{vec_len, vec_capacity}
use Rattle.qz_visit.specs.Closing.{KeepsAll}
use Rattle.qz_visit.proofs.Closed.{ClosedFrom}
use Rattle.qz_visit.proofs.closing.close_parts.Given as goal

abbrev pub invariant-loop-turns : goal.invariant-loop-turns
invariant-loop-turns g l = ClosedFrom g.K.Keeper.faults l.seen.seen.list (length l.initial.passes.items + length l.initial.shards.items) l.initial.shards.items l.initial.parts.items l.parts.items l.initial.passes.items l.passes.items l.shards.items
    × KeepsAll l.fn.seen l.seen
    × (vec_len l.shards + vec_len l.parts ≤ vec_capacity l.shards)
    × (l.seen.turns ≡ l.fn.seen.turns)

abbrev pub decreases-loop-turns : goal.decreases-loop-turns
decreases-loop-turns g l = length l.parts.items
