use Rattle.std.proofs.Common.{◌≡◌, length}
use Rattle.gift_read.specs.Places.{unled}
use Rattle.gift_read.proofs.places.unled.Given as goal

abbrev pub invariant-loop-rest : goal.invariant-loop-rest
invariant-loop-rest l = unled l.rest ≡ unled l.marks

abbrev pub decreases-loop-rest : goal.decreases-loop-rest
decreases-loop-rest l = length l.rest
