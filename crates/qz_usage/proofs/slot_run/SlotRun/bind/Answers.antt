use Rattle.std.proofs.Common.{◌≡◌, ◌∙◌, ap, sym, arith, rules, true}
use Rattle.qz_grading.specs.Grading.{shape}
use Rattle.qz_grading.specs.Shapes.{same_shape}
use Rattle.qz_usage.specs.Runs.{behaviour_of, steps_of}
use Rattle.qz_usage.proofs.StepCounts.{few}
use Rattle.qz_usage.proofs.Shapes.{fits-alike}
use Rattle.qz_usage.proofs.slot_run.SlotRun.bind.Goals as goal

pub after-self-inside-requires-clause-fits : goal.after-self-inside-requires-clause-fits
after-self-inside-requires-clause-fits g c =
    let shapes : same_shape (shape c.args.old.now) (shape c.args.newer.now) ≡ true = search rules in
    let same : c.self.inside.steps.items ≡ c.args.self.now.steps = ap steps_of c.self.view_is in
    let behaviour : c.behaviour.result ≡ behaviour_of c.args.self.now = c.behaviour.ensures ∙ ap behaviour_of c.self.view_is in
    rw (c.deref.ensures.value, same, behaviour) (sym (fits-alike c.args.old.now c.args.newer.now shapes (behaviour_of c.args.self.now) c.args.self.now.steps) ∙ c.requires.question.fits)

pub after-self-inside-requires-clause-few : goal.after-self-inside-requires-clause-few
after-self-inside-requires-clause-few g c = rw c.deref.ensures.value (omega (arith, few _ c.self.invariant.limits))

pub returns-clause-question : goal.returns-clause-question
returns-clause-question g c =
    let shapes : same_shape (shape c.args.old.now) (shape c.args.newer.now) ≡ true = search rules in
    let same : c.self.inside.steps.items ≡ c.args.self.now.steps = ap steps_of c.self.view_is in
    let behaviour = c.after-self-inside.ensures.behaviour ∙ c.behaviour.ensures ∙ ap behaviour_of c.self.view_is in
    record {
      question = c.requires.newer;
      played = rw c.deref.ensures.value at c.after-self-inside.ensures.played;
      fits = rw (behaviour, same) (sym (fits-alike c.args.old.now c.args.newer.now shapes (behaviour_of c.args.self.now) c.args.self.now.steps) ∙ c.requires.question.fits);
    }
