use Rattle.std.proofs.Common.{[], ◌∷◌, map, not, pos, ap, ◌∙◌}
use Rattle.sqlite.specs.Held.{state}
use Rattle.sqlite_value.specs.declared.value.Value.TheVariants.{Int}
use Rattle.qz_sqltables.specs.Rows.{places_of}
use Rattle.qz_sqltables.specs.Schema.{place_shown}
use Rattle.qz_sqltables.proofs.Showing.{finds_places, read_ends}
use Rattle.qz_sqltables.proofs.Texts.{places_text}
use Rattle.qz_sqltables.proofs.reads.place_rows.Goals as goal

pub returns-clause-found : goal.returns-clause-found
returns-clause-found g c clean =
    let idle = c.is_autocommit-idle.ensures.value ∙ ap not c.requires in
    read_ends (λ v. v.items) (λ t. map place_shown (places_of c.args.attempt t)) (state g.S.Store c.args.conn.now) (state g.S.Store c.query_all.new.self) places_text (Int (pos c.args.attempt.user) ∷ Int (pos c.args.attempt.nth) ∷ []) c.query_all.result (finds_places c.args.attempt (state g.S.Store c.args.conn.now) (state g.S.Store c.query_all.new.self))
    (c.is_autocommit-idle.ensures.settled idle) (rw (c.params-to_sql.ensures, c.params-to_sql-2.ensures) at (c.query_all.ensures.ok clean)) (rw (c.params-to_sql.ensures, c.params-to_sql-2.ensures) at (c.query_all.ensures.err clean))
