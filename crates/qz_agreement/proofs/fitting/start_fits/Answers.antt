use Rattle.qz_agreement.proofs.Verdicts.{start-decides, start-misfits}
use Rattle.qz_agreement.proofs.fitting.start_fits.Goals as goal

pub returns-then-not-is_under : goal.returns-then-not-is_under
returns-then-not-is_under c =
    let r = c.args.record.now in
    start-misfits c.args.catalog.now r.terms c.in-Some.terms c.args.quiz r.owner c.args.behaviour c.args.bounds.now c.args.learned.now c.in-Some-2.plan c.in-Some.is
    (rw c.in-Some-2.is at c.in_ok-plan.ensures.plan) (λ under. let yes = c.is_under.ensures.1 under in let no = c.if-not-is_under.true in absurd cc)

pub returns : goal.returns
returns c =
    let r = c.args.record.now in
    start-decides c.args.catalog.now r.terms c.in-Some.terms c.args.quiz r.owner c.args.behaviour c.args.bounds.now c.args.learned.now c.in-Some-2.plan c.learns_from.result c.in-Some.is
    (rw c.in-Some-2.is at c.in_ok-plan.ensures.plan) (rw c.in-Some-2.is at c.in_ok-plan.ensures.user) (c.is_under.ensures.0 c.if-not-is_under.false) c.learns_from.ensures
