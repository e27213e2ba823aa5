use Rattle.std.proofs.Common.{refl}
use Rattle.sqlite.specs.Held.{state}
use Rattle.qz_sqltables.specs.Schema.{attempt_table, with_records}
use Rattle.qz_sqltables.proofs.Creating.{made}
use Rattle.qz_sqltables.proofs.Texts.{creates_attempt, attempt_text}
use Rattle.qz_sqltables.proofs.schema.make_attempts.Goals as goal

pub returns-clause-made : goal.returns-clause-made
returns-clause-made g c clean inside =
    made with_records attempt_table attempt_text creates_attempt refl (state g.S.Store c.args.tx.now.conn.now) (state g.S.Store c.execute.new.self.conn.now) c.execute.result (c.execute.ensures.runs clean inside)
