use Rattle.std.proofs.Common.{length, false, sym, refl, ◌∙◌}
use Rattle.qz_tries.proofs.AfterSteps as steps
use Rattle.qz_tries.proofs.machine.TryMachine.submit.Goals as goal

pub returns-then-not-complete-clause-after : goal.returns-then-not-complete-clause-after
returns-then-not-complete-clause-after g c =
    let q = c.args.question.now in
    let s = c.args.before.now in
    let r = c.args.response.now in
    let view = c.self.view_is in
    steps.submits_incomplete _ q s r (length s) c.waiting-self-inside.result (steps.seen_after q s view c.requires.after) (steps.seen_finished false view c.requires.unfinished)
    (steps.seen_fits q r view c.requires.fits) (sym c.complete.ensures ∙ c.if-not-complete.true) refl c.waiting-self-inside.ensures
