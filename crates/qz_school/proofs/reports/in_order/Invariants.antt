use Rattle.std.proofs.Common.{length}
use Rattle.qz_school.proofs.Rows.{ArePut}
use Rattle.qz_school.proofs.reports.in_order.Given as goal

abbrev pub invariant-loop-rest : goal.invariant-loop-rest
invariant-loop-rest l = ArePut l.rows l.rest l.found.entries

abbrev pub decreases-loop-rest : goal.decreases-loop-rest
decreases-loop-rest l = length l.rest
