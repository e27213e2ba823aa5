use Rattle.std.proofs.Common.{◌≡◌, ◌++◌, map}
use Rattle.qz_terms.specs.Lists.{places_to}
use Rattle.qz_bulk.specs.Bulk.{save_line}
use Rattle.qz_bulk.proofs.bulk_school.saves_onto.Given as goal

abbrev pub invariant-loop-before : goal.invariant-loop-before
invariant-loop-before l = l.lines ≡ l.initial.lines ++ map (save_line l.student) (places_to l.before)
