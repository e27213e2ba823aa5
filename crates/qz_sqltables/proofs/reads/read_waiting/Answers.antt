use Rattle.std.proofs.Common.{map}
use Rattle.sqlite.specs.Held.{state}
use Rattle.qz_sqltables.specs.Rows.{waiting}
use Rattle.qz_sqltables.specs.Schema.{attempt_from, attempt_shown}
use Rattle.qz_sqltables.proofs.Showing.{ends_reading, waiting_back}
use Rattle.qz_sqltables.proofs.reads.read_waiting.Goals as goal

pub returns-clause-found : goal.returns-clause-found
returns-clause-found g c clean =
    ends_reading (λ t. map attempt_shown (waiting c.args.quiz t)) (waiting c.args.quiz) (map attempt_from) (waiting_back c.args.quiz) (state g.S.Store c.args.conn.now) (state g.S.Store c.waiting_rows.new.conn) c.in_ok-rows.rows.items c.attempts_of.result
    (c.in_ok-rows.ensures.found clean) (rw c.deref.ensures.value at c.attempts_of.ensures)
