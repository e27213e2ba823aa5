use Rattle.std.proofs.Common.{◌≡◌, true, false, ◌||◌, Bool, Option, ap, sym, refl, ◌∙◌}
use Rattle.qz_grading.specs.declared.response.Response.{Response}
use Rattle.qz_grading.specs.Behaviours.{is_right}
use Rattle.qz_tries.specs.Progress.{Progress, is_adaptive}
use Rattle.qz_tries.specs.After.{submitted_at}
use Rattle.qz_tries.specs.Parts.{is_new}
use Rattle.qz_tries.proofs.AfterSteps as steps
use Rattle.qz_tries.proofs.machine.TryMachine.submit_adaptive.Goals as goal
use Rattle.qz_tries.proofs.machine.TryMachine.submit_adaptive.Goals.{then-is_new, else-is_new}

pub returns-clause-after : goal.returns-clause-after
returns-clause-after g c =
    let q = c.args.question.now in
    let s = c.args.before.now in
    let r = c.args.response.now in
    let view = c.self.view_is in
    let after = steps.seen_after q s view c.requires.after in
    let open_yet = steps.seen_finished false view c.requires.unfinished in
    let plays : is_adaptive c.self.inside.behaviour ≡ true = ap (λ (p : Progress). is_adaptive p.behaviour) view ∙ c.requires.adaptive in
    let fitting = steps.seen_fits q r view c.requires.fits in
    let newness : is_new (submitted_at s c.self.inside.handed_in) r ≡ c.is_new.result = ap (λ (o : Option Response). is_new o r) (sym c.submitted_at.ensures) ∙ sym c.is_new.ensures in
    elim c.if-is_new.branch [
      | then-is_new w ↦ rw w.self-inside-is (steps.tries_adaptive _ q s r w.after_try-self-inside.result _ after open_yet plays fitting c.requires.complete (newness ∙ w.if-is_new.true)
          (ap (λ (v : Bool). c.self.inside.right || v) (w.is_right.ensures ∙ ap is_right w.grade-grade.ensures.value))
          (rw (w.after_try-self-inside.ensures.value, w.penalty_under-penalty.ensures, w.grade-grade.ensures.value) refl)
          (w.after_try-self-inside.ensures.earned after.earned))
      | else-is_new w ↦ rw w.self-inside-is (steps.repeats_adaptive _ q s r w.waiting-self-inside.result after open_yet plays fitting c.requires.complete (newness ∙ w.if-is_new.false) w.waiting-self-inside.ensures)
    ]
