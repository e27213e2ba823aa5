use Rattle.std.proofs.Common.{[], ◌∷◌, map, not, pos, ap, ◌∙◌}
use Rattle.sqlite.specs.Held.{state}
use Rattle.sqlite_value.specs.declared.value.Value.TheVariants.{Int}
use Rattle.qz_sqltables.specs.Rows.{waiting}
use Rattle.qz_sqltables.specs.Schema.{attempt_shown}
use Rattle.qz_sqltables.proofs.Showing.{finds_waiting, read_ends}
use Rattle.qz_sqltables.proofs.Texts.{waiting_text}
use Rattle.qz_sqltables.proofs.reads.waiting_rows.Goals as goal

pub returns-clause-found : goal.returns-clause-found
returns-clause-found g c clean =
    let idle = c.is_autocommit-idle.ensures.value ∙ ap not c.requires in
    read_ends (λ v. v.items) (λ t. map attempt_shown (waiting c.args.quiz t)) (state g.S.Store c.args.conn.now) (state g.S.Store c.query_all.new.self) waiting_text (Int (pos c.args.quiz) ∷ []) c.query_all.result (finds_waiting c.args.quiz (state g.S.Store c.args.conn.now) (state g.S.Store c.query_all.new.self))
    (c.is_autocommit-idle.ensures.settled idle) (rw (c.params-to_sql.ensures) at (c.query_all.ensures.ok clean)) (rw (c.params-to_sql.ensures) at (c.query_all.ensures.err clean))
