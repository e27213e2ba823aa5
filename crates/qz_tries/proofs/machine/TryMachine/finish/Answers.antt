use Rattle.std.proofs.Common.{◌++◌, ◌∷◌, [], false, ap, sym, ◌∙◌, arith}
use Rattle.qz_grading.specs.declared.response.Step.TheVariants as step
use Rattle.qz_grading.specs.Behaviours.{outcome}
use Rattle.qz_tries.specs.Progress.{Progress}
use Rattle.qz_tries.proofs.AfterSteps as steps
use Rattle.qz_tries.proofs.machine.TryMachine.finish.Goals as goal

pub returns-clause-after : goal.returns-clause-after
returns-clause-after g c =
    let q = c.args.question.now in
    let s = c.args.before.now in
    let view = c.self.view_is in
    let finished = c.outcome_at_finish-self-inside.ensures in
    steps.finishes _ q s c.outcome_at_finish-self-inside.result (steps.seen_after q s view c.requires.after) (steps.seen_finished false view c.requires.unfinished)
    (finished.outcome ∙ ap (λ (p : Progress). outcome p.behaviour q (s ++ step.Finish ∷ [])) (sym view)) finished.earned
    (omega (arith, finished.tries, ap (λ (p : Progress). p.outcome.tries) view))
