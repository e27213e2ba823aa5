use Rattle.qz_solo.proofs.MarkLemmas.{more_shown}
use Rattle.qz_solo.proofs.marks.shown_onto.Goals as goal

pub loop-part-preserved : goal.loop-part-preserved
loop-part-preserved c = rw (c.in_ok-value_onto.ensures, c.loop-part.invariant, c.part-item.is) (more_shown c.args.marks.now c.args.parts.now c.loop-part.part-index c.part-item.result c.loop-part-test.true)
