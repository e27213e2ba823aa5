use Rattle.std.proofs.Common.{length, ap, arith}
use Rattle.gift_read.specs.Places.{is_at}
use Rattle.gift_read.proofs.PieceLemmas.{length-cut, length-pieces-le}
use Rattle.gift_read.proofs.faults.piece_count.Goals as goal

pub loop-after-init : goal.loop-after-init
loop-after-init c = omega (arith, ap length c.in-Some.ensures, length-cut (is_at c.args.begins) 0 c.in-Some.field-0-0 c.in-Some.rest.now)

pub overflow_add-count : goal.overflow_add-count
overflow_add-count c =
    let step = (rw c.in-Some-next.is at c.split_piece.ensures.pieces) 0 in
    omega (arith, ap length step, c.loop-after.invariant, length-pieces-le (is_at c.args.begins) c.args.sign c.args.answers.now)

pub loop-after-preserved : goal.loop-after-preserved
loop-after-preserved c =
    let after = c.in-Some-next.after.now in
    let step = (rw c.in-Some-next.is at c.split_piece.ensures.pieces) 0 in
    omega (arith, ap length step, length-cut (is_at c.args.begins) 0 c.in-Some-next.field-0-0 after, c.loop-after.invariant)

pub returns-in-None-clause-few : goal.returns-in-None-clause-few
returns-in-None-clause-few c =
    let step = (rw c.in-None.is at c.split_piece.ensures.pieces) 0 in
    omega (arith, ap length step, c.loop-after.invariant, length-pieces-le (is_at c.args.begins) c.args.sign c.args.answers.now)
