use Rattle.std.proofs.Common.{◌≡◌, length}
use Rattle.std.specs.List.{list_any}
use Rattle.gift_read.specs.Flaws.{has_flaw}
use Rattle.gift_read.specs.Parts.{pieces, cut}
use Rattle.gift_read.specs.Places.{is_at}
use Rattle.gift_read.proofs.faults_of_values.is_in_some.Given as goal

abbrev pub invariant-loop-after : goal.invariant-loop-after
invariant-loop-after l = list_any (has_flaw l.flaw) (cut (is_at l.begins) 0 l.rest) ≡ list_any (has_flaw l.flaw) (pieces (is_at l.begins) l.fn.sign l.fn.marks)

abbrev pub decreases-loop-after : goal.decreases-loop-after
decreases-loop-after l = length l.rest
