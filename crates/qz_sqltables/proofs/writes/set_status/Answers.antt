use Rattle.std.proofs.Common.{[], ◌∷◌, pos}
use Rattle.sqlite.specs.Held.{state}
use Rattle.sqlite_value.specs.declared.value.Value.TheVariants.{Int}
use Rattle.qz_sqltables.specs.Rows.{with_status}
use Rattle.qz_sqltables.proofs.Changes.{ends, turned}
use Rattle.qz_sqltables.proofs.Texts.{end_text}
use Rattle.qz_sqltables.proofs.writes.set_status.Goals as goal

pub returns-clause-turns : goal.returns-clause-turns
returns-clause-turns g c clean inside =
    turned (with_status c.args.owner c.args.nth c.args.status) (state g.S.Store c.args.tx.now.conn.now) (state g.S.Store c.execute.new.self.conn.now) end_text (Int (pos c.args.status) ∷ Int (pos c.args.owner) ∷ Int (pos c.args.nth) ∷ []) c.execute.result
    (λ count. ends (state g.S.Store c.args.tx.now.conn.now) (state g.S.Store c.execute.new.self.conn.now) c.args.owner c.args.nth c.args.status count) (rw (c.params-to_sql.ensures, c.params-to_sql-2.ensures, c.params-to_sql-3.ensures) at (c.execute.ensures.runs clean inside))
