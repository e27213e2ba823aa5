use Rattle.std.proofs.Common.{sym}
use Rattle.qz_agreement.proofs.Verdicts.{rebound-pending}
use Rattle.qz_agreement.proofs.look.on_rebound.Goals as goal

pub returns : goal.returns
returns c = λ l learned are.
    rebound-pending c.args.catalog.now l c.args.job c.args.attempt c.args.slot c.in-Some.quiz c.args.bound.now learned (sym (c.in-Some.ensures l are)) (c.in_ok-job_binds.ensures.0 c.if-not-branch.false)
