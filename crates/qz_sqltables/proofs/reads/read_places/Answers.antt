use Rattle.std.proofs.Common.{map}
use Rattle.sqlite.specs.Held.{state}
use Rattle.sqlite_value.specs.Order.{column}
use Rattle.qz_sqltables.specs.Rows.{places_of}
use Rattle.qz_sqltables.specs.Schema.{number_in, place_shown}
use Rattle.qz_sqltables.proofs.Showing.{ends_reading, places_back}
use Rattle.qz_sqltables.proofs.reads.read_places.Goals as goal

pub returns-clause-found : goal.returns-clause-found
returns-clause-found g c clean =
    ends_reading (λ t. map place_shown (places_of c.args.attempt t)) (places_of c.args.attempt) (map (λ row. number_in (column row 0))) (places_back c.args.attempt) (state g.S.Store c.args.conn.now) (state g.S.Store c.place_rows.new.conn) c.in_ok-rows.rows.items c.places_in.result
    (c.in_ok-rows.ensures.found clean) (rw c.deref.ensures.value at c.places_in.ensures)
