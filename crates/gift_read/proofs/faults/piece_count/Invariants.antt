use Rattle.std.proofs.Common.{◌≡◌, ◌+◌, length}
use Rattle.gift_read.specs.Parts.{pieces, cut}
use Rattle.gift_read.specs.Places.{is_at}
use Rattle.gift_read.proofs.faults.piece_count.Given as goal

abbrev pub invariant-loop-after : goal.invariant-loop-after
invariant-loop-after l = l.count + length (cut (is_at l.begins) 0 l.rest) ≡ length (pieces (is_at l.begins) l.fn.sign l.fn.answers) + 1

abbrev pub decreases-loop-after : goal.decreases-loop-after
decreases-loop-after l = length l.rest
