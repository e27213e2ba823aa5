use Rattle.std.proofs.Common.{◌≡◌, length}
use Rattle.gift_read.specs.Category.{line_marks}
use Rattle.gift_read.proofs.category.line_marks.Given as goal

abbrev pub invariant-loop-rest : goal.invariant-loop-rest
invariant-loop-rest l = line_marks l.rest ≡ line_marks l.marks

abbrev pub decreases-loop-rest : goal.decreases-loop-rest
decreases-loop-rest l = length l.rest
