use Rattle.std.proofs.Common.{OnOk, refl, subst}
use Rattle.sqlite.specs.Held.{state}
use Rattle.qz_sqltables.specs.Schema.{reply_table, with_steps}
use Rattle.qz_sqltables.specs.Statements.{Makes}
use Rattle.qz_sqltables.proofs.Creating.{made}
use Rattle.qz_sqltables.proofs.Texts.{all_are, creates_reply, reply_text}
use Rattle.qz_sqltables.proofs.schema.make_replies.Goals as goal

pub returns-clause-made : goal.returns-clause-made
returns-clause-made g c clean inside =
    let old = state g.S.Store c.args.tx.now.conn.now in
    let new = state g.S.Store c.execute.new.self.conn.now in
    subst (λ s. OnOk c.execute.result (Makes with_steps s 4 old.now new.now)) all_are (made with_steps reply_table reply_text creates_reply refl old new c.execute.result (c.execute.ensures.runs clean inside))
