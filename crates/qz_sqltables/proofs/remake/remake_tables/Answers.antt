use Rattle.std.proofs.Common.{arith}
use Rattle.sqlite.specs.Held.{state}
use Rattle.sqlite.specs.State.{HasCleanDisk}
use Rattle.qz_sqltables.proofs.Dropping.{remade}
use Rattle.qz_sqltables.proofs.remake.remake_tables.Goals as goal

pub returns-clause-made : goal.returns-clause-made
returns-clause-made g c clean inside =
    let first : HasCleanDisk (state g.S.Store c.drop_all.new.tx.conn.now) = omega (arith, c.make_all.ensures.survives.clean, clean) in
    remade (state g.S.Store c.args.tx.now.conn.now).now (state g.S.Store c.drop_all.new.tx.conn.now).now (state g.S.Store c.make_all.new.tx.conn.now).now c.make_all.result
    (c.in_ok-drop_all.ensures.dropped first inside) (c.make_all.ensures.made clean (c.in_ok-drop_all.ensures.inside first inside))
