use Rattle.std.proofs.Common.{◌≡◌, true, take, vec_len}
use Rattle.std.specs.List.{list_all}
use Rattle.qz_asking.specs.Asking.{Asks}
use Rattle.qz_ready_doors.specs.Halls.{entrance_by}
use Rattle.qz_ready_doors.specs.Kept.{IsKept}
use Rattle.qz_ready_doors.specs.Slots.{is_free}
use Rattle.qz_ready_doors.proofs.round.stop_all.Given as goal

abbrev pub invariant-loop-at : goal.invariant-loop-at
invariant-loop-at g l = record {
  kept : ∥ IsKept (Asks g.C.Clock.tells g.D.Desk.answers) g.P.Link.ReadyLink g.K.Began.start
      (entrance_by g.P.ReadyDoor.left g.P.ReadyDoor.returned g.P.ReadyDoor.returns g.P.ReadyDoor.out g.P.ReadyDoor.faults l.door) l.desks ∥₁;
  free : list_all is_free (take l.at l.desks.slots.items) ≡ true;
  long : vec_len l.desks.slots ≡ vec_len l.fn.desks.slots;
  most : l.desks.most ≡ l.fn.desks.most;
}
