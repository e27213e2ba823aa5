use Rattle.std.proofs.Common.{[], ◌∷◌, pos}
use Rattle.sqlite.specs.Held.{state}
use Rattle.sqlite_value.specs.declared.value.Value.TheVariants.{Int}
use Rattle.qz_sqltables.specs.Rows.{with_attempt}
use Rattle.qz_sqltables.proofs.Changes.{starts, turned}
use Rattle.qz_sqltables.proofs.Texts.{start_text}
use Rattle.qz_sqltables.proofs.writes.put_attempt.Goals as goal

pub returns-clause-turns : goal.returns-clause-turns
returns-clause-turns g c clean inside =
    turned (with_attempt (record { owner = c.args.owner; nth = c.args.nth; quiz = c.args.quiz; status = 0 })) (state g.S.Store c.args.tx.now.conn.now) (state g.S.Store c.execute.new.self.conn.now) start_text (Int (pos c.args.owner) ∷ Int (pos c.args.nth) ∷ Int (pos c.args.quiz) ∷ []) c.execute.result
    (λ count. starts (state g.S.Store c.args.tx.now.conn.now) (state g.S.Store c.execute.new.self.conn.now) c.args.owner c.args.nth c.args.quiz count) (rw (c.params-to_sql.ensures, c.params-to_sql-2.ensures, c.params-to_sql-3.ensures) at (c.execute.ensures.runs clean inside))
