use Rattle.std.proofs.Common.{arith, refl}
use Rattle.qz_doors.proofs.DoorLemmas.{at_door_none, at_door_one, ends_empty, ends_failed, same_answerer}
use Rattle.qz_doors.proofs.door.serve_door.Goals as goal

pub loop-end-init : goal.loop-end-init
loop-end-init g c = record { at_door = at_door_none _ _ _ _; fine = refl; within = omega arith }

pub loop-end-preserved : goal.loop-end-preserved
loop-end-preserved g c =
    let next = rw c.in-Ok-Some.field-0-is at c.in-Ok-Some.ensures in
    rw c.with_one_more-end.ensures (record {
      at_door = at_door_one _ _ _ _ _ _ _ _ _ _ c.in-Ok-Some.why c.loop-end.invariant.at_door next;
      fine = c.loop-end.invariant.fine;
      within = omega (arith, c.loop-end-test.true);
    })

pub returns-in-Ok-None : goal.returns-in-Ok-None
returns-in-Ok-None g c =
    let none = rw c.in-Ok-None.field-0-is at c.in-Ok-None.ensures in
    record { serves = ends_empty _ _ _ _ _ _ _ _ _ _ c.loop-end.invariant.at_door c.loop-end.invariant.fine c.loop-end.invariant.within (same_answerer _ _ _ _ none.1 none.2) none.0 none.3 }

pub returns-in-Err : goal.returns-in-Err
returns-in-Err g c =
    let none = c.in-Err.ensures in
    record { serves = ends_failed _ _ _ _ _ _ _ _ _ _ c.loop-end.invariant.at_door refl c.loop-end.invariant.within (same_answerer _ _ _ _ none.1 none.2) none.0 none.3 }
