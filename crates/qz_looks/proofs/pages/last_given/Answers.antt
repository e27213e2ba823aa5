use Rattle.qz_grading.specs.Steps.{response_of}
use Rattle.qz_terms.proofs.Walks.{last_kept, option_map-either}
use Rattle.qz_looks.proofs.pages.last_given.Goals as goal

pub loop-step-preserved : goal.loop-step-preserved
loop-step-preserved c =
    let kept = last_kept response_of c.args.steps.now c.loop-step.step-index c.step-item.result c.loop-step-test.true c.step-item.is in
    let either = option_map-either (λ r. r.now) c.response.result c.loop-step.last in
    cc
