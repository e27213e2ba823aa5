use Rattle.std.proofs.Common.{refl}
use Rattle.sqlite.specs.Held.{state}
use Rattle.qz_sqltables.specs.Schema.{replies_at, without_steps}
use Rattle.qz_sqltables.proofs.Dropping.{dropped}
use Rattle.qz_sqltables.proofs.Texts.{drop_replies_text, drops_replies}
use Rattle.qz_sqltables.proofs.remake.drop_replies.Goals as goal

pub returns-clause-dropped : goal.returns-clause-dropped
returns-clause-dropped g c clean inside =
    dropped without_steps drop_replies_text 2 replies_at drops_replies refl refl (state g.S.Store c.args.tx.now.conn.now) (state g.S.Store c.execute.new.self.conn.now) c.execute.result (c.execute.ensures.runs clean inside)
