use Rattle.std.proofs.Common.{sym}
use Rattle.qz_stats.proofs.Lasts.{before-more, last-kept}
use Rattle.qz_stats.proofs.numbers.last_response.Goals as goal

pub loop-step-preserved : goal.loop-step-preserved
loop-step-preserved c = record {
  last = last-kept c.args.steps.now c.loop-step.step-index c.step-item.result c.response.result c.loop-step.last c.or-last.result c.loop-step-test.true c.step-item.is c.response.ensures c.or-last.ensures c.loop-step.invariant.last;
  before = before-more c.args.steps.now c.loop-step.step-index c.step-item.result c.loop-step-test.true c.step-item.is (sym c.if-is_finish.ensures) c.loop-step.invariant.before;
}
