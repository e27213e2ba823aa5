use Rattle.std.proofs.Common.{◌≡◌, [], subst, arith}
use Rattle.std.proofs.lemmas.List.{nil_from_length}
use Rattle.qz_visit.specs.Closing.{JoinsAll}
use Rattle.qz_visit.proofs.Holding.{passes_held}
use Rattle.qz_polling.proofs.Seating.{last_right, leaves_done, leaves_first, leaves_last, puts_done}
use Rattle.qz_polling.proofs.seats.leave_seats.Goals as goal

pub loop-desk-init : goal.loop-desk-init
loop-desk-init g c = leaves_first _ _ _ c.requires.manned

pub join-requires-clause-own : goal.join-requires-clause-own
join-requires-clause-own g c = passes_held _ _ _ c.loop-desk.invariant.so.manned.own

pub join-requires-clause-other : goal.join-requires-clause-other
join-requires-clause-other g c = rw c.into_passes.ensures.seats (last_right _ _ _ _ _ _ _ c.in-Some.ensures.items c.loop-desk.invariant)

pub loop-desk-preserved : goal.loop-desk-preserved
loop-desk-preserved g c = leaves_last _ _ _ _ _ _ _ c.in-Some.ensures.items c.loop-desk.invariant _ (rw c.into_passes.ensures.seats at c.join.ensures.seats)

pub returns-clause-passes : goal.returns-clause-passes
returns-clause-passes g c =
    let none = c.in_default.ensures.cases in
    let none_left = none.0 in
    leaves_done _ _ _ _ _ (nil_from_length _ (omega (arith, none_left))) c.loop-desk.invariant

pub returns-clause-put : goal.returns-clause-put
returns-clause-put g c =
    let none = c.in_default.ensures.cases in
    let none_left = none.0 in
    puts_done _ _ _ _ _ (nil_from_length _ (omega (arith, none_left))) c.loop-desk.invariant
