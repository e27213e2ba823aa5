use Rattle.std.proofs.Common.{[], ◌∷◌, pos, to_z-of_z}
use Rattle.sqlite.specs.Held.{state}
use Rattle.sqlite_value.specs.declared.value.Value.TheVariants.{Int, Text}
use Rattle.qz_sqltables.specs.Rows.{with_reply}
use Rattle.qz_sqltables.proofs.Changes.{replies, turned_at}
use Rattle.qz_sqltables.proofs.Texts.{reply_put_text}
use Rattle.qz_sqltables.proofs.writes.put_reply.Goals as goal

pub returns-clause-turns : goal.returns-clause-turns
returns-clause-turns g c clean inside n is =
    turned_at (with_reply (record { caller = c.args.caller; word = c.args.word.now; place = n })) (state g.S.Store c.args.tx.now.conn.now) (state g.S.Store c.execute.new.self.conn.now) c.args.place n is reply_put_text (λ z. Int (pos c.args.caller) ∷ Text c.args.word.now ∷ Int z ∷ []) c.execute.result
    (λ count. replies (state g.S.Store c.args.tx.now.conn.now) (state g.S.Store c.execute.new.self.conn.now) c.args.caller c.args.word.now n count) (rw (c.params-to_sql.ensures, c.params-to_sql-2.ensures, c.params-to_sql-3.ensures, to_z-of_z c.ranges.place) at (c.execute.ensures.runs clean inside))
