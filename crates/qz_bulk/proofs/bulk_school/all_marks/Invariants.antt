use Rattle.std.proofs.Common.{◌≡◌}
use Rattle.qz_terms.specs.Serial.{part_list}
use Rattle.qz_bulk.specs.Bulk.{all_marks}
use Rattle.qz_bulk.proofs.bulk_school.all_marks.Given as goal

abbrev pub invariant-loop-before : goal.invariant-loop-before
invariant-loop-before l = (l.marks ≡ all_marks (part_list l.initial.school 0) l.before) × (l.school ≡ l.initial.school)
