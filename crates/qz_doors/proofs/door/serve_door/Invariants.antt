use Rattle.std.proofs.Common.{◌≡◌, ◌-◌, ◌≤◌, false}
use Rattle.qz_asking.specs.Asking.{Asks}
use Rattle.qz_doors.proofs.DoorLemmas.{IsAtDoor}
use Rattle.qz_doors.proofs.door.serve_door.Given as goal

abbrev pub invariant-loop-end : goal.invariant-loop-end
invariant-loop-end g l = record {
  at_door : IsAtDoor (Asks g.C.Clock.tells g.D.Desk.answers)
      (λ link. record { left = g.R.Link.Link.left link; holds = g.R.Link.Link.holds link; faults = g.R.Link.Link.faults link })
      (record { left = g.R.Door.left l.fn.door; returned = g.R.Door.returned l.fn.door; returns = g.R.Door.returns l.fn.door; out = g.R.Door.out l.fn.door; faults = g.R.Door.faults l.fn.door })
      (record { left = g.R.Door.left l.door; returned = g.R.Door.returned l.door; returns = g.R.Door.returns l.door; out = g.R.Door.out l.door; faults = g.R.Door.faults l.door })
      (record { desk = l.fn.desk; clock = l.fn.clock })
      (record { desk = l.desk; clock = l.clock })
      l.end.taken l.end.short;
  fine : l.end.fault ≡ false;
  within : l.end.taken ≤ l.links;
}

abbrev pub decreases-loop-end : goal.decreases-loop-end
decreases-loop-end g l = l.links - l.end.taken
