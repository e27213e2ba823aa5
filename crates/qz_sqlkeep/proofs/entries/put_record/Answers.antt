use Rattle.std.proofs.Common.{OnOk, arith, subst, sym, to_z-of_z, ◌∙◌}
use Rattle.sqlite.specs.Held.{state}
use Rattle.sqlite.specs.State.{HasCleanDisk}
use Rattle.qz_sqltables.specs.Statements.{Turns}
use Rattle.qz_sqlkeep.specs.Tables.{with_event, with_key, with_record}
use Rattle.qz_sqlkeep.proofs.Entering.{then_turns}
use Rattle.qz_sqlkeep.proofs.entries.put_record.Goals as goal

pub returns-in_ok-put_event-in-Some-clause-turns :
    goal.returns-in_ok-put_event-in-Some-clause-turns
returns-in_ok-put_event-in-Some-clause-turns g c clean inside n is =
    let r = c.in-Some.record in
    let sent = to_z-of_z c.ranges.place ∙ is in
    let mid : HasCleanDisk (state g.S.Store c.put_event.new.tx.conn.now) = omega (arith, c.put_key.ensures.survives.clean, clean) in
    let on = c.in_ok-put_event-in-Some.ensures.inside mid inside in
    subst (λ o. OnOk c.put_key.result (Turns (with_record n o) (state g.S.Store c.args.tx.now.conn.now).now (state g.S.Store c.put_key.new.tx.conn.now).now)) (sym c.in-Some.is)
    (then_turns (with_event r n r.event) (with_key r.caller n r.key) (state g.S.Store c.args.tx.now.conn.now).now (state g.S.Store c.put_event.new.tx.conn.now).now
    (state g.S.Store c.put_key.new.tx.conn.now).now c.put_key.result (c.in_ok-put_event-in-Some.ensures.turns mid inside n sent) (c.put_key.ensures.turns clean on n sent))
