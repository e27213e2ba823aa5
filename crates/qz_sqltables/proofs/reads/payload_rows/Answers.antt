use Rattle.std.proofs.Common.{[], map, not, ap, ◌∙◌}
use Rattle.sqlite.specs.Held.{state}
use Rattle.qz_sqltables.specs.Schema.{payload_shown}
use Rattle.qz_sqltables.proofs.Showing.{finds_payloads, read_ends, shows_records}
use Rattle.qz_sqltables.proofs.Texts.{find_text}
use Rattle.qz_sqltables.proofs.reads.payload_rows.Goals as goal

pub returns-clause-found : goal.returns-clause-found
returns-clause-found g c clean =
    let idle = c.is_autocommit-idle.ensures.value ∙ ap not c.requires in
    read_ends (λ v. v.items) (λ t. map payload_shown t.payloads) (state g.S.Store c.args.conn.now) (state g.S.Store c.query_all.new.self) find_text ([]) c.query_all.result (finds_payloads (state g.S.Store c.args.conn.now) (state g.S.Store c.query_all.new.self))
    (c.is_autocommit-idle.ensures.settled idle) (c.query_all.ensures.ok clean) (c.query_all.ensures.err clean)

pub returns-clause-records : goal.returns-clause-records
returns-clause-records g c clean = shows_records (λ v. v.items) (state g.S.Store c.args.conn.now) (state g.S.Store c.query_all.new.self) c.query_all.result (c.query_all.ensures.ok clean)
