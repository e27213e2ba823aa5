use Rattle.std.proofs.Common.{◌≡◌, ℕ, List, subst, ◌∙◌}
use Rattle.std.specs.Prelude.{IfOk}
use Rattle.qz_index.proofs.StartLemmas.{of_no_quiz, of_quiz}
use Rattle.qz_index.proofs.TakerLemmas.{no_takers, takers_are}
use Rattle.qz_index.proofs.attempts.Attempts.takers.Goals as goal

pub returns-in-Some : goal.returns-in-Some
returns-in-Some c = λ h are.
    let t = c.in-Some.takers.now in
    subst (λ (us : List ℕ). IfOk c.users.result (λ found. found.items ≡ us)) (takers_are t h c.args.quiz c.users.ensures.ordered (of_quiz c.args.self.now h c.args.quiz t are c.in-Some.ensures.value)) c.users.ensures.found

pub returns-in-None : goal.returns-in-None
returns-in-None c = λ h are. c.new.ensures.items ∙ no_takers h c.args.quiz (of_no_quiz c.args.self.now h c.args.quiz are c.in-None.ensures.value)
