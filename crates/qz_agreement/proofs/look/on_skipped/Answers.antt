use Rattle.std.proofs.Common.{sym, subst}
use Rattle.qz_terms.specs.Legal.{SkipAgrees}
use Rattle.qz_agreement.specs.declared.look.Verdict.{Verdict}
use Rattle.qz_agreement.specs.Fitting.{IsVerdict}
use Rattle.qz_agreement.proofs.Verdicts.{skip-verdict}
use Rattle.qz_agreement.proofs.look.on_skipped.Goals as goal

pub returns-in_ok-job_skips-in-Some : goal.returns-in_ok-job_skips-in-Some
returns-in_ok-job_skips-in-Some c = λ l bound are own.
    subst (λ (v : Verdict). IsVerdict c.args.catalog.now (λ n q. ⊥) (SkipAgrees c.args.catalog.now l c.args.job c.args.attempt c.args.slot bound c.args.newer) v) (sym c.decided.ensures)
    (skip-verdict c.args.catalog.now l c.args.job c.args.attempt c.args.slot c.in-Some.quiz bound c.args.newer c.in_ok-job_skips-in-Some.field-0 (sym (c.in-Some.ensures l are)) own c.in_ok-job_skips-in-Some.ensures)
