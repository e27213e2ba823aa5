use Rattle.std.proofs.Common.{◌≡◌, true, false, None, ap, sym, ◌∙◌, refl}
use Rattle.qz_grading.specs.Steps.{has_finish, response_of}
use Rattle.qz_behave.specs.Machines.{Progress}
use Rattle.qz_grading.proofs.StepLemmas.{or-true}
use Rattle.qz_behave.proofs.MachineLemmas.{place-kept, place-answered}
use Rattle.qz_behave.proofs.machine.Machine.last_after.Goals as goal

pub returns-then-self : goal.returns-then-self
returns-then-self c =
    let closed : has_finish c.args.before.now ≡ true = sym c.requires.finished ∙ sym (ap (λ (m : Progress). m.finished) c.self.view_is) ∙ c.if-self.true in
    rw (ap (λ (m : Progress). m.last) c.self.view_is) (place-kept c.args.self.now.last c.args.before.now c.args.step.now c.requires.place (rw closed refl))

pub returns-in-Some : goal.returns-in-Some
returns-in-Some c =
    let none : has_finish c.args.before.now ≡ false = sym c.requires.finished ∙ sym (ap (λ (m : Progress). m.finished) c.self.view_is) ∙ c.if-self.false in
    place-answered c.args.before.now c.args.step.now c.in-Some.field-0.now none (sym c.in-Some.ensures)

pub returns-in-None : goal.returns-in-None
returns-in-None c =
    let is : response_of c.args.step.now ≡ None = sym c.in-None.ensures in
    rw (ap (λ (m : Progress). m.last) c.self.view_is)
    (place-kept c.args.self.now.last c.args.before.now c.args.step.now c.requires.place (rw is (or-true (has_finish c.args.before.now))))
