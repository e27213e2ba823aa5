use Rattle.std.proofs.Common.{refl}
use Rattle.sqlite.specs.Held.{state}
use Rattle.qz_sqltables.specs.Schema.{keeper_schema, steps_at}
use Rattle.qz_sqltables.proofs.Dropping.{dropped}
use Rattle.qz_sqltables.proofs.Texts.{drop_steps_text, drops_steps, steps_unacted}
use Rattle.qz_sqltables.proofs.remake.drop_steps.Goals as goal

pub returns-clause-dropped : goal.returns-clause-dropped
returns-clause-dropped g c clean inside =
    dropped keeper_schema drop_steps_text 2 steps_at drops_steps refl steps_unacted (state g.S.Store c.args.tx.now.conn.now) (state g.S.Store c.execute.new.self.conn.now) c.execute.result (c.execute.ensures.runs clean inside)
