use Rattle.std.proofs.Common.{refl}
use Rattle.qz_ready_doors.proofs.SlotLemmas.{begins_served, declines_unread, opened_so}
use Rattle.qz_ready_doors.proofs.slot.opened.Goals as goal

pub returns-in-Ok : goal.returns-in-Ok
returns-in-Ok g c = record {
  opens = opened_so _ _ c.args.slot c.args.arrival.1 (record { desk = c.in-Free.desk; clock = c.in-Free.clock }) _ c.hung.result.0 c.hung.result.1
      (rw c.in-Free.is refl)
      (rw (c.of-first.ensures, c.of-at.ensures, c.of-then.ensures) refl)
      (rw (c.of-first.ensures, c.of-at.ensures, c.of-then.ensures) (begins_served _ _ c.in-Ok.task.serving c.in-Free.desk c.args.arrival.1 c.in-Free.clock c.in-Ok.ensures.begins))
      c.hung.ensures.hangs;
}

pub returns-in-Err : goal.returns-in-Err
returns-in-Err g c = record {
  opens = rw c.in-Free.is (declines_unread _ _ c.in-Free.desk c.in-Err.desk c.args.arrival.1 c.in-Err.link c.in-Free.clock c.in-Err.clock c.in-Err.ensures.refused.0 c.in-Err.ensures.refused.1 c.in-Err.ensures.refused.2);
}
