use Rattle.std.proofs.Common.{◌≡◌, ◌+◌, ◌≤◌, ◌++◌, true, length, map}
use Rattle.std.specs.List.{list_all}
use Rattle.std.specs.Prelude.{vec_capacity}
use Rattle.qz_ready_doors.specs.Kept.{free_slot}
use Rattle.qz_ready_doors.specs.Slots.{is_free}
use Rattle.qz_ready_doors.proofs.serve.vacated.Given as goal

abbrev pub invariant-loop-slot : goal.invariant-loop-slot
invariant-loop-slot g l = (l.fn.slots.items ≡ map free_slot l.desks.items ++ l.rest.items)
    × (list_all is_free l.rest.items ≡ true)
    × (length l.desks.items + length l.rest.items ≤ vec_capacity l.desks)

abbrev pub decreases-loop-slot : goal.decreases-loop-slot
decreases-loop-slot g l = length l.rest.items
