use Rattle.std.proofs.Common.{◌≡◌, map, take}
use Rattle.sqlite_value.specs.Order.{column}
use Rattle.qz_sqltables.specs.Schema.{number_in}
use Rattle.qz_sqltables.proofs.reads.places_in.Given as goal

abbrev pub invariant-loop-row : goal.invariant-loop-row
invariant-loop-row l = l.items.items ≡ map (λ row. number_in (column row 0)) (take l.row-index l.rows)
