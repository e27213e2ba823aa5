use Rattle.std.proofs.Common.{sym}
use Rattle.qz_access.proofs.LenientLemmas.{most_lenient-more}
use Rattle.qz_access.proofs.lenient.most_lenient.Goals as goal

pub loop-group-preserved : goal.loop-group-preserved
loop-group-preserved c = rw (c.more_lenient-found.ensures, c.loop-group.invariant) (sym (most_lenient-more c.args.groups.now c.loop-group.group-index _ c.loop-group-test.true))
