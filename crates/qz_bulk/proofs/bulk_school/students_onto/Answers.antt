use Rattle.qz_bulk.specs.Bulk.{student_lines}
use Rattle.qz_bulk.proofs.BulkLemmas.{more_flat}
use Rattle.qz_bulk.proofs.bulk_school.students_onto.Goals as goal

pub loop-before-preserved : goal.loop-before-preserved
loop-before-preserved c = rw (c.in_ok-student_onto.ensures, c.loop-before.invariant) (more_flat student_lines c.args.lines.now c.loop-before.before)
