use Rattle.std.proofs.Common.{[], ◌∷◌, pos, to_z-of_z}
use Rattle.sqlite.specs.Held.{state}
use Rattle.sqlite_value.specs.declared.value.Value.TheVariants.{Int}
use Rattle.qz_sqltables.specs.Rows.{with_step}
use Rattle.qz_sqltables.proofs.Changes.{acts, turned_at}
use Rattle.qz_sqltables.proofs.Texts.{act_text}
use Rattle.qz_sqltables.proofs.writes.put_step.Goals as goal

pub returns-clause-turns : goal.returns-clause-turns
returns-clause-turns g c clean inside n is =
    turned_at (with_step (record { place = n; owner = c.args.owner; nth = c.args.nth; slot = c.args.slot })) (state g.S.Store c.args.tx.now.conn.now) (state g.S.Store c.execute.new.self.conn.now) c.args.place n is act_text (λ z. Int z ∷ Int (pos c.args.owner) ∷ Int (pos c.args.nth) ∷ Int (pos c.args.slot) ∷ []) c.execute.result
    (λ count. acts (state g.S.Store c.args.tx.now.conn.now) (state g.S.Store c.execute.new.self.conn.now) n c.args.owner c.args.nth c.args.slot count) (rw (c.params-to_sql.ensures, c.params-to_sql-2.ensures, c.params-to_sql-3.ensures, c.params-to_sql-4.ensures, to_z-of_z c.ranges.place) at (c.execute.ensures.runs clean inside))
