use Rattle.futures.specs.Task.{Keeps}
use Rattle.qz_ready_doors.proofs.ringing.Ringing.ring_found.Given as goal

abbrev pub invariant-loop : goal.invariant-loop
invariant-loop g l = Keeps l.fn.cx l.cx
