use Rattle.std.proofs.Common.{refl}
use Rattle.sqlite.specs.Held.{state}
use Rattle.qz_sqltables.specs.Schema.{record_table, with_records}
use Rattle.qz_sqltables.proofs.Dropping.{dropped}
use Rattle.qz_sqltables.proofs.Texts.{drop_records_text, drops_records}
use Rattle.qz_sqltables.proofs.remake.drop_records.Goals as goal

pub returns-clause-dropped : goal.returns-clause-dropped
returns-clause-dropped g c clean inside =
    dropped with_records drop_records_text 0 record_table drops_records refl refl (state g.S.Store c.args.tx.now.conn.now) (state g.S.Store c.execute.new.self.conn.now) c.execute.result (c.execute.ensures.runs clean inside)
