use Rattle.std.proofs.Common.{◌≡◌, ◌+◌, length}
use Rattle.qz_grading.specs.Canonical.{single_choices}
use Rattle.qz_grading.proofs.room.behind_single.Given as goal

abbrev pub invariant-loop-rest : goal.invariant-loop-rest
invariant-loop-rest l = l.room + length (single_choices l.default l.rest) ≡ l.left + length (single_choices l.default l.choices)

abbrev pub decreases-loop-rest : goal.decreases-loop-rest
decreases-loop-rest l = length l.rest
