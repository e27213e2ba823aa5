use Rattle.std.proofs.Common.{◌≡◌, ◌+◌, length}
use Rattle.qz_grading.specs.Canonical.{escaped}
use Rattle.qz_grading.proofs.room.behind_escaped.Given as goal

abbrev pub invariant-loop-rest : goal.invariant-loop-rest
invariant-loop-rest l = l.room + length (escaped l.rest) ≡ l.left + length (escaped l.text)

abbrev pub decreases-loop-rest : goal.decreases-loop-rest
decreases-loop-rest l = length l.rest
