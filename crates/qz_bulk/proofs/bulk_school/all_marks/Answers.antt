use Rattle.std.proofs.Common.{length, ap, ◌∙◌}
use Rattle.qz_terms.specs.Serial.{Lists, part_list}
use Rattle.qz_bulk.proofs.BulkLemmas.{more_marks}
use Rattle.qz_bulk.proofs.bulk_school.all_marks.Goals as goal

pub marks_onto-requires : goal.marks_onto-requires
marks_onto-requires c = record { one = ap (λ (l : Lists). length l.parts) c.loop-before.invariant.1 ∙ c.requires.one }

pub loop-before-preserved : goal.loop-before-preserved
loop-before-preserved c =
    (c.in_ok-marks_onto.ensures.marks ∙ rw (c.loop-before.invariant.0, c.loop-before.invariant.1) (more_marks (part_list c.args.school.now 0) c.loop-before.before), c.in_ok-marks_onto.ensures.unchanged ∙ c.loop-before.invariant.1)
