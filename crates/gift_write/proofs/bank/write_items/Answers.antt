use Rattle.gift_write.proofs.WriteLemmas.{writes_piece, writes_front, left-item, on_err}
use Rattle.gift_write.proofs.bank.write_items.Goals as goal

pub returns-in_err-write_item-clause-front : goal.returns-in_err-write_item-clause-front
returns-in_err-write_item-clause-front g c =
    let left = left-item c.loop-item.before.now c.args.items.now c.loop-item.item-index c.item-item.result c.loop-item-test.true c.item-item.is in
    on_err c.from_residual.result _ (writes_front _ _ _ _ _ _ _ _ (rw left at c.loop-item.invariant) c.in_err-write_item.ensures.front)

pub loop-item-preserved : goal.loop-item-preserved
loop-item-preserved g c =
    let left = left-item c.loop-item.before.now c.args.items.now c.loop-item.item-index c.item-item.result c.loop-item-test.true c.item-item.is in
    rw c.as_slice-before.ensures (writes_piece _ _ _ _ _ _ _ _ _ (rw left at c.loop-item.invariant) c.in_ok-write_item.ensures.written c.in_ok-write_item.ensures.later)
