use Rattle.std.proofs.Common.{ap, sym, ◌∙◌}
use Rattle.qz_grading.specs.declared.outcome.Behaviour.{Behaviour}
use Rattle.qz_grading.specs.declared.outcome.Behaviour.TheVariants as behaviour
use Rattle.qz_grading.specs.Grading.{fits}
use Rattle.qz_grading.specs.Steps.{last}
use Rattle.qz_tries.specs.Parts.{if_gradable}
use Rattle.qz_tries.proofs.AfterSteps as steps
use Rattle.qz_tries.proofs.machine.TryMachine.outcome_at_finish.Goals as goal

pub after_finish-requires-clause-fits : goal.after_finish-requires-clause-fits
after_finish-requires-clause-fits g c =
    let q = c.args.question.now in
    let s = c.args.before.now in
    let after = steps.seen_after q s c.self.view_is c.requires.after in
    steps.last-fits behaviour.Interactive q s _ (c.gradable_at-last.ensures ∙ ap (if_gradable q) after.last) (λ can. ap (λ (b : Behaviour). fits q (last s) b) (sym c.in-Interactive.is) ∙ after.fits can)

pub after_finish-requires-in_default-clause-fits : goal.after_finish-requires-in_default-clause-fits
after_finish-requires-in_default-clause-fits g c =
    let q = c.args.question.now in
    let s = c.args.before.now in
    let after = steps.seen_after q s c.self.view_is c.requires.after in
    steps.last-fits c.self.inside.behaviour q s _ (c.gradable_at-last.ensures ∙ ap (if_gradable q) after.last) after.fits
