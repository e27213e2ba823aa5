use Rattle.std.proofs.Common.{◌≡◌, ◌+◌, length}
use Rattle.gift_read.specs.Texts.{spelled}
use Rattle.gift_read.proofs.limits.behind_spelled.Given as goal

abbrev pub invariant-loop-rest : goal.invariant-loop-rest
invariant-loop-rest l = l.room + length (spelled l.rest) ≡ l.left + length (spelled l.marks)

abbrev pub decreases-loop-rest : goal.decreases-loop-rest
decreases-loop-rest l = length l.rest
