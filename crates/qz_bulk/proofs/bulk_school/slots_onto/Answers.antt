use Rattle.qz_bulk.specs.Bulk.{slot_line}
use Rattle.qz_bulk.proofs.BulkLemmas.{more_mapped}
use Rattle.qz_bulk.proofs.bulk_school.slots_onto.Goals as goal

pub loop-before-preserved : goal.loop-before-preserved
loop-before-preserved c = rw (c.in_ok-added.ensures, c.in_ok-slot_line.ensures, c.loop-before.invariant) (more_mapped slot_line c.args.lines.now c.loop-before.before)
