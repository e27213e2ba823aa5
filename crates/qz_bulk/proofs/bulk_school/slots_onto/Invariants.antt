use Rattle.std.proofs.Common.{◌≡◌, ◌++◌, map}
use Rattle.qz_terms.specs.Lists.{places_to}
use Rattle.qz_bulk.specs.Bulk.{slot_line}
use Rattle.qz_bulk.proofs.bulk_school.slots_onto.Given as goal

abbrev pub invariant-loop-before : goal.invariant-loop-before
invariant-loop-before l = l.lines ≡ l.initial.lines ++ map slot_line (places_to l.before)
