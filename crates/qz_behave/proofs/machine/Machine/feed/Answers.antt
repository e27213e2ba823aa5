use Rattle.std.proofs.Common.{ap, refl}
use Rattle.qz_behave.specs.Machines.{Progress}
use Rattle.qz_behave.proofs.MachineLemmas.{after-more}
use Rattle.qz_behave.proofs.machine.Machine.feed.Goals as goal

pub returns-clause-after : goal.returns-clause-after
returns-clause-after g c =
    after-more c.args.self.now _ c.args.question.now c.args.before.now c.args.step.now c.requires.after c.requires.fits
    (ap (λ (m : Progress). m.behaviour) c.self.view_is) c.next-outcome.ensures.outcome c.last_after-last.ensures
    (rw (ap (λ (m : Progress). m.finished) c.self.view_is, c.is_finish.ensures) refl)
