use Rattle.std.proofs.Common.{sym}
use Rattle.qz_agreement.proofs.Verdicts.{step-verdict}
use Rattle.qz_agreement.proofs.look.on_step.Goals as goal

pub returns-in-Some : goal.returns-in-Some
returns-in-Some c = λ l are. step-verdict c.args.catalog.now l c.args.record.now c.args.attempt c.in-Some.quiz c.under_terms.result (sym (c.in-Some.ensures l are)) c.under_terms.ensures
