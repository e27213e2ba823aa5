use Rattle.std.proofs.Common.{◌≡◌, List, [], Option, None, Some, ap, sym, ◌∙◌, option_map}
use Rattle.std.specs.BTreeMap.{get}
use Rattle.std.specs.Prelude.{unwrap_or}
use Rattle.qz_gradebook.specs.declared.finished.Finished.{Finished}
use Rattle.qz_gradebook.specs.Totals.{Gradebook, totals_of}
use Rattle.qz_terms.specs.Rows.{row_of}
use Rattle.qz_lives.specs.Attempts.{by_number, finished_in}
use Rattle.qz_lives.proofs.Totals.{row-in, row-none}
use Rattle.qz_lives.proofs.lives.Lives.row.Goals as goal

pub returns-in_err-get : goal.returns-in_err-get
returns-in_err-get c = λ h lives.
    let m = c.args.self.now in
    let q = c.args.quiz in
    let u = c.args.user in
    let none : get by_number m.rows (q, u) ≡ None = sym c.in_err-get.ensures.value in
    let nothing : finished_in m.rows q u ≡ [] = ap (λ (o : Option Gradebook). unwrap_or (option_map (λ (g : Gradebook). g.finished) o) []) none in
    c.from_residual.ensures ∙ sym (row-none c.args.policy.now) ∙ ap (λ (fs : List Finished). row_of c.args.policy.now (totals_of fs q u)) (sym nothing) ∙ row-in m h q c.args.policy.now u lives

pub returns : goal.returns
returns c = λ h lives.
    let m = c.args.self.now in
    let q = c.args.quiz in
    let u = c.args.user in
    let there : get by_number m.rows (q, u) ≡ Some c.in_ok-get.field-0.now = sym c.in_ok-get.ensures.value in
    let kept : finished_in m.rows q u ≡ c.in_ok-get.field-0.now.finished = ap (λ (o : Option Gradebook). unwrap_or (option_map (λ (g : Gradebook). g.finished) o) []) there in
    c.row.ensures ∙ ap (λ (fs : List Finished). row_of c.args.policy.now (totals_of fs q u)) (sym kept) ∙ row-in m h q c.args.policy.now u lives
