use Rattle.std.proofs.Common.{arith}
use Rattle.qz_doors.proofs.ServeLemmas.{ends_step, fewer_step, serves_none, serves_step, stops_step}
use Rattle.qz_doors.proofs.link.serve_through.Goals as goal

pub loop-end-init : goal.loop-end-init
loop-end-init g c = record { serving = serves_none _ _ _ _ c.requires.fresh; room = c.requires.room }

pub loop-end-smaller : goal.loop-end-smaller
loop-end-smaller g c = fewer_step _ _ _ _ _ _ _ c.loop-end.invariant.serving.live (rw c.in-Ok-None.field-0-is at c.in-Ok-None.ensures)

pub loop-end-preserved : goal.loop-end-preserved
loop-end-preserved g c = record { serving = serves_step _ _ _ _ _ _ _ _ _ c.loop-end.invariant.serving (rw c.in-Ok-None.field-0-is at c.in-Ok-None.ensures); room = omega (arith, c.loop-end.invariant.room, c.step.auto.room) }

pub returns-in-Ok-Some : goal.returns-in-Ok-Some
returns-in-Ok-Some g c = ends_step _ _ _ _ _ _ _ _ c.in-Ok-Some.end c.loop-end.invariant.serving (rw c.in-Ok-Some.field-0-is at c.in-Ok-Some.ensures)

pub returns-in-Err : goal.returns-in-Err
returns-in-Err g c = stops_step _ _ _ _ _ _ _ _ c.in-Err.halt c.loop-end.invariant.serving c.in-Err.ensures
