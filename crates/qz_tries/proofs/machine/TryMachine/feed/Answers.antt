use Rattle.std.proofs.Common.{length, true, false, sym, refl, inl, inr}
use Rattle.qz_grading.specs.declared.response.Step.TheVariants as step
use Rattle.qz_tries.proofs.AfterSteps as steps
use Rattle.qz_tries.proofs.machine.TryMachine.feed.Goals as goal

pub returns-then-self-clause-after : goal.returns-then-self-clause-after
returns-then-self-clause-after g c =
    steps.closed c.args.self.now c.args.question.now c.args.before.now c.args.step.now c.requires.after (steps.seen_finished true (sym c.self.view_is) c.if-self.true)

pub returns-in-Save-clause-after : goal.returns-in-Save-clause-after
returns-in-Save-clause-after g c =
    let q = c.args.question.now in
    let s = c.args.before.now in
    rw (c.save.ensures, c.in-Save.is) (steps.saves c.args.self.now q s c.in-Save.field-0 (length s) _ c.requires.after (steps.seen_finished false (sym c.self.view_is) c.if-self.false) (rw c.in-Save.is at c.requires.fits) refl refl)

pub returns-in-Again-clause-after : goal.returns-in-Again-clause-after
returns-in-Again-clause-after g c =
    let q = c.args.question.now in
    let s = c.args.before.now in
    let after = steps.seen_after q s c.self.view_is c.requires.after in
    elim c.in-Again.is [
      | inl again ↦ rw again (steps.passes _ q s step.Again c.waiting-self-inside.result after c.if-self.false refl refl refl c.waiting-self-inside.ensures)
      | inr mark ↦ rw mark.2 (steps.passes _ q s (step.Mark mark.0 mark.1) c.waiting-self-inside.result after c.if-self.false refl refl refl c.waiting-self-inside.ensures)
    ]
