use Rattle.std.proofs.Common.{◌∙◌, ap, arith, length}
use Rattle.std.proofs.lemmas.List.FromFn.{length-map-range_with_len}
use Rattle.qz_turn.specs.Turns.{dealt_pass}
use Rattle.qz_turn.proofs.Dealing.{deals_on}
use Rattle.qz_turn.proofs.turns.deal_all.Goals as goal

pub push_reserved-requires : goal.push_reserved-requires
push_reserved-requires g c =
    let deals = c.loop-number.invariant.0 in
    let long = ap length deals.passes_are ∙ length-map-range_with_len (dealt_pass c.args.seat.table_id c.args.seat.me.0) 0 c.loop-number.number in
    omega (arith, long, c.loop-number.passes.ok, c.loop-number.invariant.2, c.loop-number-test.true)

pub loop-number-preserved : goal.loop-number-preserved
loop-number-preserved g c =
    let i = c.loop-number.invariant in
    let d = c.deal.ensures in
    let same = d.given.0 ∙ i.1 in (
      deals_on c.args.seat.table_id c.args.seats c.args.seat.me.0 c.loop-number.number c.loop-number.seat.me c.deal.new.seat.me c.deal.result.me c.deal.result.table_id
          c.loop-number.passes.items c.push_reserved.new.self.items c.of.result i.0 c.loop-number-test.true d.left.1 d.given.1 same c.of.ensures c.push_reserved.ensures.items,
      d.left.0 ∙ i.1,
      omega (arith, i.2, c.push_reserved.ensures.capacity),
    )
