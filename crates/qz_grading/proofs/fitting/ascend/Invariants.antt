use Rattle.std.proofs.Common.{◌≡◌, length}
use Rattle.qz_grading.specs.Grading.{ascend_from}
use Rattle.qz_grading.proofs.fitting.ascend.Given as goal

abbrev pub invariant-loop-rest : goal.invariant-loop-rest
invariant-loop-rest l = ascend_from l.low l.rest ≡ ascend_from 0 l.places

abbrev pub decreases-loop-rest : goal.decreases-loop-rest
decreases-loop-rest l = length l.rest
