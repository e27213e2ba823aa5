use Rattle.std.proofs.Common.{◌≡◌, take, vec_len}
use Rattle.std.specs.List.{All}
use Rattle.futures.specs.Task.{IsArmed, Keeps}
use Rattle.qz_asking.specs.Asking.{Asks}
use Rattle.qz_ready_doors.specs.declared.round.Turn.TheVariants as turn
use Rattle.qz_ready_doors.specs.Halls.{entrance_by}
use Rattle.qz_ready_doors.specs.Kept.{IsKept}
use Rattle.qz_ready_doors.specs.Waits.{IsHeard}
use Rattle.qz_ready_doors.proofs.round.round.Given as goal

abbrev pub invariant-loop-at : goal.invariant-loop-at
invariant-loop-at g l = record {
  kept : ∥ IsKept (Asks g.C.Clock.tells g.D.Desk.answers) g.P.Link.ReadyLink g.K.Began.start
      (entrance_by g.P.ReadyDoor.left g.P.ReadyDoor.returned g.P.ReadyDoor.returns g.P.ReadyDoor.out g.P.ReadyDoor.faults l.door) l.desks ∥₁;
  heard : All (IsHeard l.cx) (take l.at l.desks.slots.items);
  armed : l.turn ≡ turn.Waits → IsArmed l.cx;
  goes_on : Keeps l.fn.cx l.cx;
  long : vec_len l.desks.slots ≡ vec_len l.initial.desks.slots;
  since : vec_len l.desks.slots ≡ vec_len l.fn.desks.slots;
  most : l.desks.most ≡ l.fn.desks.most;
}
