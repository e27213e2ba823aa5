use Rattle.std.proofs.Common.{◌<◌, length}
use Rattle.qz_asking.specs.Asking.{Asks}
use Rattle.qz_doors.proofs.ServeLemmas.{IsServing, steps_left}
use Rattle.qz_doors.proofs.link.serve_through.Given as goal

abbrev pub invariant-loop-end : goal.invariant-loop-end
invariant-loop-end g l = record {
  serving : IsServing (Asks g.C.Clock.tells g.D.Desk.answers)
      (record { left = g.L.Link.left l.fn.link; holds = g.L.Link.holds l.fn.link; faults = g.L.Link.faults l.fn.link })
      (record { left = g.L.Link.left l.link; holds = g.L.Link.holds l.link; faults = g.L.Link.faults l.link })
      (record { desk = l.fn.desk; clock = l.fn.clock })
      (record { desk = l.desk; clock = l.clock })
      l.core;
  room : 0 < length l.room;
}

abbrev pub decreases-loop-end : goal.decreases-loop-end
decreases-loop-end g l = steps_left l.core
