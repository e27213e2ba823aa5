use Rattle.qz_ready_doors.proofs.SlotLemmas.{frees, may_go_on}
use Rattle.qz_ready_doors.proofs.slot.stopped.Goals as goal

pub stop-requires : goal.stop-requires
stop-requires g c = may_go_on _ _ c.in-Open.taken.task.serving c.in-Open.taken.link.value (record { desk = c.in-Open.taken.desk.value; clock = c.in-Open.taken.clock.value }) (rw c.in-Open.is at c.requires.slot)

pub returns-in-Open-clause-stops : goal.returns-in-Open-clause-stops
returns-in-Open-clause-stops g c = λ is. rw (c.freed-slot.ensures.slot, c.freed-slot.ensures.ended, c.in-Open.is) (frees _ _ c.in-Open.taken c.stop.result c.stop.ensures.ends (rw c.in-Open.is at is))
