use Rattle.std.proofs.Common.{SFits, arith, rules, to_z-of_z, w64, ◌∙◌}
use Rattle.sqlite.specs.Held.{state}
use Rattle.sqlite.specs.State.{HasCleanDisk}
use Rattle.qz_sqlkeep.proofs.Entering.{enters_after}
use Rattle.qz_sqlkeep.proofs.entries.put_entry.Goals as goal

pub returns-clause-turns : goal.returns-clause-turns
returns-clause-turns g c clean inside =
    let mid : HasCleanDisk (state g.S.Store c.put_payload.new.tx.conn.now) = omega (arith, c.put_record.ensures.survives.clean, clean) in
    let fits : SFits w64 c.in_ok-place.place = search rules in
    let on = c.in_ok-place.ensures.inside mid inside in
    enters_after c.args.payload.now c.args.spelled.now c.in_ok-place.place (state g.S.Store c.args.tx.now.conn.now) (state g.S.Store c.put_payload.new.tx.conn.now)
    (state g.S.Store c.put_record.new.tx.conn.now).now c.put_record.result (c.in_ok-place.ensures.put mid inside) (λ n is. c.put_record.ensures.turns clean on n (to_z-of_z fits ∙ is))
