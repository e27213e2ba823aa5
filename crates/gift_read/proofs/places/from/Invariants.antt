use Rattle.std.proofs.Common.{◌≡◌, ◌≤◌, length}
use Rattle.gift_read.specs.Places.{is_at, from}
use Rattle.gift_read.proofs.places.from.Given as goal

abbrev pub invariant-loop-rest : goal.invariant-loop-rest
invariant-loop-rest l = (from (is_at l.landmark) l.rest ≡ from (is_at l.landmark) l.marks) × (length l.rest ≤ length l.marks)

abbrev pub decreases-loop-rest : goal.decreases-loop-rest
decreases-loop-rest l = length l.rest
