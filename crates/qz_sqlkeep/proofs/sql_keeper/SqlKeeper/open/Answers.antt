use Rattle.sqlite.specs.Held.{state}
use Rattle.qz_sqlkeep.proofs.Filling.{kept_found}
use Rattle.qz_sqlkeep.proofs.Keeping.{stands_as}
use Rattle.qz_sqlkeep.proofs.sql_keeper.SqlKeeper.open.Goals as goal

pub new-requires-clause-tables : goal.new-requires-clause-tables
new-requires-clause-tables g c told =
    stands_as c.in_ok-payloads.payloads (state g.S.Store c.fill.new.conn) (c.in_ok-payloads.ensures.filled (g.met.S.Base.honest c.fill.new.conn.store told).clean).stands

pub returns-clause-list : goal.returns-clause-list
returns-clause-list g c =
    rw c.new.ensures (kept_found g.S.Base.tells (state g.S.Store c.fill.new.conn) c.in_ok-payloads.payloads (λ told. (c.in_ok-payloads.ensures.filled (g.met.S.Base.honest c.fill.new.conn.store told).clean).stands))
