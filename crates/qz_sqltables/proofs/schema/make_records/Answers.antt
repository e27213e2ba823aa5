use Rattle.std.proofs.Common.{refl}
use Rattle.sqlite.specs.Held.{state}
use Rattle.qz_sqltables.specs.Schema.{no_schema, record_table}
use Rattle.qz_sqltables.proofs.Creating.{made}
use Rattle.qz_sqltables.proofs.Texts.{creates_record, record_text}
use Rattle.qz_sqltables.proofs.schema.make_records.Goals as goal

pub returns-clause-made : goal.returns-clause-made
returns-clause-made g c clean inside =
    made no_schema record_table record_text creates_record refl (state g.S.Store c.args.tx.now.conn.now) (state g.S.Store c.execute.new.self.conn.now) c.execute.result (c.execute.ensures.runs clean inside)
