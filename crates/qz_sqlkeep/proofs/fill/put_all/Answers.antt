use Rattle.std.proofs.Common.{◌<◌, length, arith, ◌∙◌}
use Rattle.sqlite.specs.Held.{state}
use Rattle.qz_sqlkeep.proofs.Filling.{fills_next}
use Rattle.qz_sqlkeep.proofs.fill.put_all.Goals as goal

pub loop-payload-preserved : goal.loop-payload-preserved
loop-payload-preserved g c =
    let put = c.in_ok-put_next.ensures in
    let within : c.loop-payload.payload-index < length c.args.payloads.now = omega arith in (
      fills_next c.args.payloads.now c.loop-payload.payload-index c.payload-item.result c.as_slice.result.now (state g.S.Store c.args.tx.now.conn.now) (state g.S.Store c.loop-payload.tx.conn.now)
          (state g.S.Store c.put_next.new.tx.conn.now) within c.payload-item.is c.as_slice.ensures c.loop-payload.invariant.0 put.survives put.grows put.inside put.kept,
      put.same_reference ∙ c.loop-payload.invariant.1,
    )
