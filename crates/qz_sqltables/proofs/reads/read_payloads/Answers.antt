use Rattle.std.proofs.Common.{map}
use Rattle.sqlite.specs.Held.{state}
use Rattle.sqlite_value.specs.Order.{bytes, column}
use Rattle.qz_sqltables.specs.Schema.{payload_shown}
use Rattle.qz_sqltables.proofs.Showing.{ends_reading, finds_back, payloads_back}
use Rattle.qz_sqltables.proofs.reads.read_payloads.Goals as goal

pub returns-clause-found : goal.returns-clause-found
returns-clause-found g c clean =
    ends_reading (λ t. map payload_shown t.payloads) (λ t. t.payloads) (map (λ row. bytes (column row 0))) payloads_back (state g.S.Store c.args.conn.now) (state g.S.Store c.payload_rows.new.conn) c.in_ok-rows.rows.items c.payloads_of.result
    (c.in_ok-rows.ensures.found clean) (rw c.deref.ensures.value at c.payloads_of.ensures)

pub returns-clause-records : goal.returns-clause-records
returns-clause-records g c clean =
    finds_back (state g.S.Store c.args.conn.now) c.in_ok-rows.rows.items c.payloads_of.result (c.in_ok-rows.ensures.records clean) (rw c.deref.ensures.value at c.payloads_of.ensures)
