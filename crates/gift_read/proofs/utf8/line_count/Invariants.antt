use Rattle.std.proofs.Common.{◌≡◌, ◌+◌, ◌≤◌, length}
use Rattle.gift_read.proofs.LineCounts.{breaks_behind}
use Rattle.std.proofs.Common.{false}
use Rattle.gift_read.proofs.utf8.line_count.Given as goal

abbrev pub invariant-loop-rest : goal.invariant-loop-rest
invariant-loop-rest l = (l.breaks + breaks_behind l.after_return l.rest ≡ breaks_behind false l.text) × (l.breaks + length l.rest ≤ length l.text)

abbrev pub decreases-loop-rest : goal.decreases-loop-rest
decreases-loop-rest l = length l.rest
