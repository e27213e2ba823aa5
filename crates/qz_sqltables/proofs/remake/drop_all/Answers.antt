use Rattle.std.proofs.Common.{arith}
use Rattle.sqlite.specs.Held.{state}
use Rattle.sqlite.specs.State.{HasCleanDisk}
use Rattle.qz_sqltables.proofs.Dropping.{all_dropped}
use Rattle.qz_sqltables.proofs.remake.drop_all.Goals as goal

pub returns-clause-dropped : goal.returns-clause-dropped
returns-clause-dropped g c clean inside =
    let third : HasCleanDisk (state g.S.Store c.drop_attempts.new.tx.conn.now) = omega (arith, c.drop_records.ensures.survives.clean, clean) in
    let second : HasCleanDisk (state g.S.Store c.drop_replies.new.tx.conn.now) = omega (arith, c.in_ok-drop_attempts.ensures.survives.clean, third) in
    let first : HasCleanDisk (state g.S.Store c.drop_steps.new.tx.conn.now) = omega (arith, c.in_ok-drop_replies.ensures.survives.clean, second) in
    let one = c.in_ok-drop_steps.ensures.inside first inside in
    let two = c.in_ok-drop_replies.ensures.inside second one in
    let three = c.in_ok-drop_attempts.ensures.inside third two in
    all_dropped (state g.S.Store c.args.tx.now.conn.now).now (state g.S.Store c.drop_steps.new.tx.conn.now).now (state g.S.Store c.drop_replies.new.tx.conn.now).now
    (state g.S.Store c.drop_attempts.new.tx.conn.now).now (state g.S.Store c.drop_records.new.tx.conn.now).now c.drop_records.result
    (c.in_ok-drop_steps.ensures.dropped first inside) (c.in_ok-drop_replies.ensures.dropped second one) (c.in_ok-drop_attempts.ensures.dropped third two) (c.drop_records.ensures.dropped clean three)
