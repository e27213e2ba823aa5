use Rattle.std.proofs.Common.{◌≡◌, map, take}
use Rattle.sqlite_value.specs.Order.{bytes, column}
use Rattle.qz_sqltables.proofs.reads.payloads_of.Given as goal

abbrev pub invariant-loop-row : goal.invariant-loop-row
invariant-loop-row l = l.items.items ≡ map (λ row. bytes (column row 0)) (take l.row-index l.rows)
