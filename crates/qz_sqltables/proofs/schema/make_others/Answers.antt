use Rattle.std.proofs.Common.{arith}
use Rattle.sqlite.specs.Held.{state}
use Rattle.sqlite.specs.State.{HasCleanDisk}
use Rattle.qz_sqltables.proofs.Creating.{others_made}
use Rattle.qz_sqltables.proofs.schema.make_others.Goals as goal

pub returns-clause-made : goal.returns-clause-made
returns-clause-made g c clean inside =
    let second : HasCleanDisk (state g.S.Store c.make_steps.new.tx.conn.now) = omega (arith, c.make_replies.ensures.survives.clean, clean) in
    let first : HasCleanDisk (state g.S.Store c.make_attempts.new.tx.conn.now) = omega (arith, c.in_ok-make_steps.ensures.survives.clean, second) in
    let on = c.in_ok-make_attempts.ensures.inside first inside in
    let still = c.in_ok-make_steps.ensures.inside second on in
    others_made (state g.S.Store c.args.tx.now.conn.now).now (state g.S.Store c.make_attempts.new.tx.conn.now).now (state g.S.Store c.make_steps.new.tx.conn.now).now (state g.S.Store c.make_replies.new.tx.conn.now).now
    c.make_replies.result (c.in_ok-make_attempts.ensures.made first inside) (c.in_ok-make_steps.ensures.made second on) (c.make_replies.ensures.made clean still)
