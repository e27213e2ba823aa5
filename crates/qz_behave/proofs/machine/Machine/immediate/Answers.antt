use Rattle.std.proofs.Common.{sym, ◌∙◌, ap}
use Rattle.qz_behave.specs.Machines.{Progress}
use Rattle.qz_behave.proofs.MachineLemmas.{hands_in_nothing, immediate-ends, immediate-invalid, immediate-stays, immediate-closes}
use Rattle.qz_behave.proofs.machine.Machine.immediate.Goals as goal

pub returns-in-Submit-clause-outcome : goal.returns-in-Submit-clause-outcome
returns-in-Submit-clause-outcome g c =
    immediate-ends c.args.self.now c.args.question.now c.args.before.now c.args.step.now c.requires.next.after c.requires.unended c.graded_outcome.result c.requires.behaviour
    c.self.inside.behaviour c.in-Submit.response (ap (λ (m : Progress). m.behaviour) c.self.view_is) c.in-Submit.is
    (sym c.is_complete.ensures ∙ c.if-is_complete.true) c.graded_outcome.ensures.value c.graded_outcome.ensures.earned

pub returns-in-Submit-2-clause-outcome : goal.returns-in-Submit-2-clause-outcome
returns-in-Submit-2-clause-outcome g c =
    immediate-invalid c.args.self.now c.args.question.now c.args.before.now c.args.step.now c.requires.next.after c.requires.unended c.going_on.result c.requires.behaviour
    c.self.inside.behaviour c.in-Submit.response (ap (λ (m : Progress). m.behaviour) c.self.view_is) c.in-Submit.is
    (sym c.is_complete.ensures ∙ c.if-is_complete.false) c.going_on.ensures

pub returns-in-Save-clause-outcome : goal.returns-in-Save-clause-outcome
returns-in-Save-clause-outcome g c =
    immediate-stays c.args.self.now c.args.question.now c.args.before.now c.args.step.now c.requires.next.after c.requires.unended c.going_on-in-Save.result c.requires.behaviour
    (hands_in_nothing c.args.step.now c.in-Save.is) c.going_on-in-Save.ensures

pub returns-in-Finish-clause-outcome : goal.returns-in-Finish-clause-outcome
returns-in-Finish-clause-outcome g c =
    immediate-closes c.args.self.now c.args.question.now c.args.before.now c.args.step.now c.requires.next.after c.requires.unended c.at_finish.result c.requires.behaviour
    c.in-Finish.is c.at_finish.ensures.value c.at_finish.ensures.earned
