use Rattle.sqlite.specs.Held.{state}
use Rattle.qz_sqlkeep.proofs.Keeping.{grows}
use Rattle.qz_sqlkeep.proofs.fill.put_next.Goals as goal

pub returns-clause-grows : goal.returns-clause-grows
returns-clause-grows g c clean inside =
    grows (state g.S.Store c.args.tx.now.conn.now).now (state g.S.Store c.put_entry.new.tx.conn.now).now c.args.payload.now c.in_ok-spelled.spelled c.in_ok-spelled.ensures (c.in_ok-put_entry.ensures.turns clean inside)
