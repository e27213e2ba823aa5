use Rattle.std.proofs.Common.{◌≡◌, take}
use Rattle.sqlite.specs.Held.{state}
use Rattle.qz_sqlkeep.proofs.Filling.{FillsTo}
use Rattle.qz_sqlkeep.proofs.fill.put_all.Given as goal

abbrev pub invariant-loop-payload : goal.invariant-loop-payload
invariant-loop-payload g l =
    FillsTo (take l.payload-index l.payloads) (state g.S.Store l.initial.tx.conn.now) (state g.S.Store l.tx.conn.now) × (l.tx.conn.ghost_name ≡ l.initial.tx.conn.ghost_name)
