use Rattle.std.proofs.Common.{ap, sym, ◌∙◌}
use Rattle.qz_behave.specs.Machines.{Progress}
use Rattle.qz_behave.proofs.MachineLemmas.{answers, passes, manual-keeps, manual-stays, manual-closes}
use Rattle.qz_behave.proofs.machine.Machine.manual.Goals as goal

pub returns-in-Finish : goal.returns-in-Finish
returns-in-Finish c =
    manual-closes c.args.self.now c.args.question.now c.args.before.now c.args.step.now c.requires.next.after c.requires.unended c.ended.result c.requires.behaviour
    c.in-Finish.is (rw (sym c.is_last_complete.ensures ∙ c.if-is_last_complete.true) c.ended.ensures)

pub returns-in-Finish-2 : goal.returns-in-Finish-2
returns-in-Finish-2 c =
    manual-closes c.args.self.now c.args.question.now c.args.before.now c.args.step.now c.requires.next.after c.requires.unended c.ended-in-Finish-2.result c.requires.behaviour
    c.in-Finish-2.is (rw (sym c.is_last_complete.ensures ∙ c.if-is_last_complete.false) c.ended-in-Finish-2.ensures)

pub returns-in-Again : goal.returns-in-Again
returns-in-Again c =
    manual-stays c.args.self.now c.args.question.now c.args.before.now c.args.step.now c.requires.next.after c.requires.unended c.self.inside.outcome c.requires.behaviour
    (passes c.args.step.now c.in-Again.is) (ap (λ (m : Progress). m.outcome) c.self.view_is)

pub returns-in-Save : goal.returns-in-Save
returns-in-Save c =
    manual-keeps c.args.self.now c.args.question.now c.args.before.now c.args.step.now c.requires.next.after c.requires.unended c.saved.result c.requires.behaviour
    c.in-Save.response (answers c.args.step.now c.in-Save.response c.in-Save.is) c.saved.ensures
