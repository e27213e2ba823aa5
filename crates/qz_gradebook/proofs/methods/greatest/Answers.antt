use Rattle.std.proofs.Common.{◌∙◌}
use Rattle.qz_gradebook.proofs.GradeLemmas.{greatest_more}
use Rattle.qz_gradebook.proofs.methods.greatest.Goals as goal

pub loop-attempt-preserved : goal.loop-attempt-preserved
loop-attempt-preserved c = (c.greater-best.ensures.value ∙ greatest_more c.args.attempts.now c.loop-attempt.attempt-index c.attempt-item.result c.loop-attempt.best c.loop-attempt-test.true c.attempt-item.is c.loop-attempt.invariant.0, c.greater-best.ensures.range)
