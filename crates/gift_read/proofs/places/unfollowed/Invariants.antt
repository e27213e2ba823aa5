use Rattle.std.proofs.Common.{◌≡◌, ◌≤◌, length, drop, true}
use Rattle.gift_read.specs.Places.{are_blank}
use Rattle.gift_read.proofs.places.unfollowed.Given as goal

abbrev pub invariant-loop-end : goal.invariant-loop-end
invariant-loop-end l = (are_blank (drop l.end l.marks) ≡ true) × (l.end ≤ length l.marks)

abbrev pub decreases-loop-end : goal.decreases-loop-end
decreases-loop-end l = l.end
