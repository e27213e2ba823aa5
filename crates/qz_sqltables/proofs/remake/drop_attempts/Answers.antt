use Rattle.std.proofs.Common.{refl}
use Rattle.sqlite.specs.Held.{state}
use Rattle.qz_sqltables.specs.Schema.{attempts_at, without_replies}
use Rattle.qz_sqltables.proofs.Dropping.{dropped}
use Rattle.qz_sqltables.proofs.Texts.{drop_attempts_text, drops_attempts}
use Rattle.qz_sqltables.proofs.remake.drop_attempts.Goals as goal

pub returns-clause-dropped : goal.returns-clause-dropped
returns-clause-dropped g c clean inside =
    dropped without_replies drop_attempts_text 1 attempts_at drops_attempts refl refl (state g.S.Store c.args.tx.now.conn.now) (state g.S.Store c.execute.new.self.conn.now) c.execute.result (c.execute.ensures.runs clean inside)
