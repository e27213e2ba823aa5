use Rattle.std.proofs.Common.{◌≡◌, ◌++◌, flat_map}
use Rattle.qz_terms.specs.Lists.{places_to}
use Rattle.qz_bulk.specs.Bulk.{student_lines}
use Rattle.qz_bulk.proofs.bulk_school.students_onto.Given as goal

abbrev pub invariant-loop-before : goal.invariant-loop-before
invariant-loop-before l = l.lines ≡ l.initial.lines ++ flat_map student_lines (places_to l.before)
