use Rattle.std.proofs.Common.{refl}
use Rattle.sqlite.specs.Held.{state}
use Rattle.qz_sqltables.specs.Schema.{step_table, with_attempts}
use Rattle.qz_sqltables.proofs.Creating.{made}
use Rattle.qz_sqltables.proofs.Texts.{creates_step, step_text}
use Rattle.qz_sqltables.proofs.schema.make_steps.Goals as goal

pub returns-clause-made : goal.returns-clause-made
returns-clause-made g c clean inside =
    made with_attempts step_table step_text creates_step refl (state g.S.Store c.args.tx.now.conn.now) (state g.S.Store c.execute.new.self.conn.now) c.execute.result (c.execute.ensures.runs clean inside)
