use Rattle.qz_ready_doors.proofs.SlotLemmas.{frees, may_go_on}
use Rattle.qz_ready_doors.proofs.slot.Slot.go_on.Goals as goal

pub poll-requires : goal.poll-requires
poll-requires g c = (may_go_on _ _ c.in-Open.taken.task.serving c.in-Open.taken.link.value (record { desk = c.in-Open.taken.desk.value; clock = c.in-Open.taken.clock.value }) (rw c.in-Open.is at c.requires.slot), c.requires.takes)

pub returns-clause-goes : goal.returns-clause-goes
returns-clause-goes g c = λ is. rw (c.freed-slot.ensures.slot, c.freed-slot.ensures.ended, c.in-Open.is) (frees _ _ c.in-Open.taken c.in-Ready.end c.in-Ready.ensures.value (rw c.in-Open.is at is))
