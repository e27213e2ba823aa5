use Rattle.std.proofs.Common.{length}
use Rattle.qz_polling.proofs.Seating.{LeavesNext}
use Rattle.qz_polling.proofs.seats.leave_seats.Given as goal

abbrev pub invariant-loop-desk : goal.invariant-loop-desk
invariant-loop-desk g l = LeavesNext l.school l.fn.passes.seats l.passes.seats l.initial.desks.items l.desks.items

abbrev pub decreases-loop-desk : goal.decreases-loop-desk
decreases-loop-desk g l = length l.desks.items
