use Rattle.qz_bulk.specs.Bulk.{user_line}
use Rattle.qz_bulk.proofs.BulkLemmas.{more_mapped}
use Rattle.qz_bulk.proofs.bulk_school.users_onto.Goals as goal

pub loop-before-preserved : goal.loop-before-preserved
loop-before-preserved c = rw (c.in_ok-added.ensures, c.in_ok-user_line.ensures, c.loop-before.invariant) (more_mapped user_line c.args.lines.now c.loop-before.before)
