use Rattle.std.proofs.Common.{ap}
use Rattle.qz_behave.specs.Machines.{Progress}
use Rattle.qz_behave.proofs.MachineLemmas.{answers, passes, deferred-keeps, deferred-stays, deferred-closes}
use Rattle.qz_behave.proofs.machine.Machine.deferred.Goals as goal

pub returns-in-Finish-clause-outcome : goal.returns-in-Finish-clause-outcome
returns-in-Finish-clause-outcome g c =
    deferred-closes c.args.self.now c.args.question.now c.args.before.now c.args.step.now c.requires.next.after c.requires.unended c.at_finish.result c.requires.behaviour
    c.in-Finish.is c.at_finish.ensures.value c.at_finish.ensures.earned

pub returns-in-Again-clause-outcome : goal.returns-in-Again-clause-outcome
returns-in-Again-clause-outcome g c =
    deferred-stays c.args.self.now c.args.question.now c.args.before.now c.args.step.now c.requires.next.after c.requires.unended c.self.inside.outcome c.requires.behaviour
    (passes c.args.step.now c.in-Again.is) (ap (λ (m : Progress). m.outcome) c.self.view_is)

pub returns-in-Save-clause-outcome : goal.returns-in-Save-clause-outcome
returns-in-Save-clause-outcome g c =
    deferred-keeps c.args.self.now c.args.question.now c.args.before.now c.args.step.now c.requires.next.after c.requires.unended c.saved.result c.requires.behaviour
    c.in-Save.response (answers c.args.step.now c.in-Save.response c.in-Save.is) c.saved.ensures
