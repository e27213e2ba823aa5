use Rattle.std.proofs.Common.{arith}
use Rattle.sqlite.specs.Held.{state}
use Rattle.sqlite.specs.State.{HasCleanDisk}
use Rattle.qz_sqltables.proofs.Creating.{all_made}
use Rattle.qz_sqltables.proofs.schema.make_all.Goals as goal

pub returns-clause-made : goal.returns-clause-made
returns-clause-made g c clean inside =
    let first : HasCleanDisk (state g.S.Store c.make_records.new.tx.conn.now) = omega (arith, c.make_others.ensures.survives.clean, clean) in
    all_made (state g.S.Store c.args.tx.now.conn.now).now (state g.S.Store c.make_records.new.tx.conn.now).now (state g.S.Store c.make_others.new.tx.conn.now).now c.make_others.result
    (c.in_ok-make_records.ensures.made first inside) (c.make_others.ensures.made clean (c.in_ok-make_records.ensures.inside first inside))
