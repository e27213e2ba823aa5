use Rattle.std.proofs.Common.{List, sym, ◌∙◌}
use Rattle.std.proofs.lemmas.Result.{IfOk-weaker}
use Rattle.qz_terms.specs.declared.record.Record.{Record}
use Rattle.qz_terms.specs.Legal.{EventIsAllowed}
use Rattle.qz_agreement.specs.declared.look.Verdict.{Verdict}
use Rattle.qz_agreement.specs.Fitting.{IsVerdictOf, IsVerdictOn}
use Rattle.qz_agreement.specs.Quizzes.{AreQuizzes}
use Rattle.qz_agreement.proofs.Verdicts.{with-caller}
use Rattle.qz_agreement.proofs.look.look.Goals as goal

pub returns : goal.returns
returns c =
    let d = c.args.catalog.now in
    let r = c.args.record.now in
    IfOk-weaker c.on_event.result
    (λ (v : Verdict). (l : List Record) → AreQuizzes c.args.quizzes.now l → EventIsAllowed l r r.event → IsVerdictOn d l r r.event v)
    (λ (v : Verdict). (l : List Record) → AreQuizzes c.args.quizzes.now l → EventIsAllowed l r r.event → IsVerdictOf d l r v)
    (λ v told. λ l are allowed. with-caller d l r v (sym (c.is_caller.ensures d c.requires) ∙ c.if-not-is_caller.false) (told l are allowed))
    c.on_event.ensures
