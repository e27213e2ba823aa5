use Rattle.std.proofs.Common.{ap, sym, ◌∙◌}
use Rattle.qz_behave.specs.Machines.{Progress}
use Rattle.qz_behave.proofs.MachineLemmas.{ended-stays}
use Rattle.qz_behave.proofs.machine.Machine.next.Goals as goal

pub returns-then-self-clause-outcome : goal.returns-then-self-clause-outcome
returns-then-self-clause-outcome g c =
    ended-stays c.args.self.now c.args.question.now c.args.before.now c.args.step.now c.self.inside.outcome c.requires.after
    (sym (ap (λ (m : Progress). m.outcome.ended) c.self.view_is) ∙ c.if-self.true) (ap (λ (m : Progress). m.outcome) c.self.view_is)
