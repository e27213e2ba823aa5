use Rattle.std.proofs.Common.{◌≡◌, map, take}
use Rattle.qz_sqltables.specs.Schema.{attempt_from}
use Rattle.qz_sqltables.proofs.reads.attempts_of.Given as goal

abbrev pub invariant-loop-row : goal.invariant-loop-row
invariant-loop-row l = l.items.items ≡ map attempt_from (take l.row-index l.rows)
