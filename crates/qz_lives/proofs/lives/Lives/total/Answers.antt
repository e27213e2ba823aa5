use Rattle.std.proofs.Common.{◌≡◌, [], Option, None, Some, ap, sym, ◌∙◌, option_map}
use Rattle.std.specs.BTreeMap.{get}
use Rattle.std.specs.Prelude.{unwrap_or}
use Rattle.qz_gradebook.specs.Totals.{Gradebook, total_at}
use Rattle.qz_lives.specs.Attempts.{by_number, finished_in}
use Rattle.qz_lives.proofs.Totals.{no-total, total-in}
use Rattle.qz_lives.proofs.lives.Lives.total.Goals as goal

pub returns-in_err-quiz-clause-value : goal.returns-in_err-quiz-clause-value
returns-in_err-quiz-clause-value c = λ h lives. c.from_residual.ensures ∙ no-total c.args.self.now h c.args.attempt lives (sym (c.in_err-quiz.ensures h lives))

pub returns-in_err-get-clause-value : goal.returns-in_err-get-clause-value
returns-in_err-get-clause-value c = λ h lives.
    let m = c.args.self.now in
    let a = c.args.attempt in
    let q = c.in_ok-quiz.quiz in
    let none : get by_number m.rows (q, a.user) ≡ None = sym c.in_err-get.ensures.value in
    let nothing : finished_in m.rows q a.user ≡ [] = ap (λ (o : Option Gradebook). unwrap_or (option_map (λ (g : Gradebook). g.finished) o) []) none in
    c.from_residual-in_err-get.ensures ∙ sym (ap (total_at q a) nothing) ∙ total-in m h a q lives (sym (c.in_ok-quiz.ensures h lives))

pub returns-clause-value : goal.returns-clause-value
returns-clause-value c = λ h lives.
    let m = c.args.self.now in
    let a = c.args.attempt in
    let q = c.in_ok-quiz.quiz in
    let there : get by_number m.rows (q, a.user) ≡ Some c.in_ok-get.field-0.now = sym c.in_ok-get.ensures.value in
    let kept : finished_in m.rows q a.user ≡ c.in_ok-get.field-0.now.finished = ap (λ (o : Option Gradebook). unwrap_or (option_map (λ (g : Gradebook). g.finished) o) []) there in
    c.total.ensures.value ∙ ap (total_at q a) (sym kept) ∙ total-in m h a q lives (sym (c.in_ok-quiz.ensures h lives))
