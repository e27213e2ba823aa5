use Rattle.qz_ready_doors.proofs.SlotLemmas.{frees, may_go_on}
use Rattle.qz_ready_doors.proofs.slot.hung.Goals as goal

pub stop-requires : goal.stop-requires
stop-requires g c = may_go_on _ _ c.args.taken.task.serving c.args.taken.link.value (record { desk = c.args.taken.desk.value; clock = c.args.taken.clock.value }) ∣ c.requires.slot ∣₁

pub returns : goal.returns
returns g c = record { hangs = rw (c.freed-slot.ensures.slot, c.freed-slot.ensures.ended) (frees _ _ c.args.taken c.stop.result c.stop.ensures.ends c.requires.slot) }
