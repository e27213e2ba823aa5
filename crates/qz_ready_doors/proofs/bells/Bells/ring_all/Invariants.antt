use Rattle.futures.specs.Task.{Keeps}
use Rattle.qz_ready_doors.proofs.bells.Bells.ring_all.Given as goal

abbrev pub invariant-loop-bell : goal.invariant-loop-bell
invariant-loop-bell l = Keeps l.fn.cx l.cx
