use Rattle.std.proofs.Common.{SFits, rules, sym, subst, to_z-of_z, w64, ◌∙◌}
use Rattle.sqlite.specs.Held.{state}
use Rattle.qz_sqltables.specs.Statements.{PutsPayload}
use Rattle.qz_sqltables.proofs.Changes.{puts_inside}
use Rattle.qz_sqltables.proofs.writes.put_payload.Goals as goal

pub returns-clause-put : goal.returns-clause-put
returns-clause-put g c clean inside =
    let fits : SFits w64 c.last_insert_rowid.result = search rules in
    subst (λ z. PutsPayload c.args.payload.now z (state g.S.Store c.args.tx.now.conn.now) (state g.S.Store c.execute.new.self.conn.now)) (sym (to_z-of_z fits ∙ c.last_insert_rowid.ensures))
    (puts_inside (state g.S.Store c.args.tx.now.conn.now) (state g.S.Store c.execute.new.self.conn.now) c.args.payload.now _ (rw c.params-to_sql.ensures at (c.in_ok-execute.ensures.runs clean inside)))
