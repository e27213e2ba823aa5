use Rattle.std.proofs.Common.{◌≡◌, ◌+◌, ◌≤◌, ◌++◌, length, map}
use Rattle.std.specs.Prelude.{vec_capacity}
use Rattle.qz_ready_doors.specs.Kept.{free_slot}
use Rattle.qz_ready_doors.proofs.serve.seated.Given as goal

abbrev pub invariant-loop-seat : goal.invariant-loop-seat
invariant-loop-seat g l = (map free_slot l.fn.desks.items ≡ l.slots.items ++ map free_slot l.rest.items)
    × (length l.slots.items + length l.rest.items ≤ vec_capacity l.slots)

abbrev pub decreases-loop-seat : goal.decreases-loop-seat
decreases-loop-seat g l = length l.rest.items
