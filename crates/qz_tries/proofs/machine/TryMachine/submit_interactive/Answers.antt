use Rattle.std.proofs.Common.{◌≡◌, ◌++◌, ◌∷◌, [], length, false, ap, sym, refl, ◌∙◌, arith}
use Rattle.qz_grading.specs.declared.outcome.Behaviour.{Behaviour}
use Rattle.qz_grading.specs.declared.outcome.Behaviour.TheVariants as behaviour
use Rattle.qz_grading.specs.declared.response.Step.TheVariants as step
use Rattle.qz_grading.specs.Behaviours.{outcome}
use Rattle.qz_tries.specs.Progress.{Progress}
use Rattle.qz_tries.proofs.AfterSteps as steps
use Rattle.qz_tries.proofs.machine.TryMachine.submit_interactive.Goals as goal

pub returns-clause-after : goal.returns-clause-after
returns-clause-after g c =
    let q = c.args.question.now in
    let s = c.args.before.now in
    let r = c.args.response.now in
    let view = c.self.view_is in
    let after = steps.seen_after q s view c.requires.after in
    let open_yet = steps.seen_finished false view c.requires.unfinished in
    let plays : c.self.inside.behaviour ≡ behaviour.Interactive = ap (λ (p : Progress). p.behaviour) view ∙ c.requires.interactive in
    let tried = c.after_try-self-inside.ensures in
    steps.hands_in _ q s r (length s) c.after_try-self-inside.result c.self.inside.right after open_yet (steps.seen_fits q r view c.requires.fits) c.requires.complete refl
    (tried.outcome s (sym after.finished ∙ open_yet) (after.outcome ∙ ap (λ (b : Behaviour). outcome b q s) plays) ∙ ap (λ (b : Behaviour). outcome b q (s ++ step.Submit r ∷ [])) (sym plays))
    (tried.earned after.earned) (omega (arith, tried.tries)) (steps.right-interactive c.self.inside.behaviour q s (s ++ step.Submit r ∷ []) c.self.inside.right plays after.right)
