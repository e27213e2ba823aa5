use Rattle.std.proofs.Common.{List, subst, sym}
use Rattle.std.specs.Bool.{Decides}
use Rattle.std.specs.Prelude.{IfOk, IsSomeAnd}
use Rattle.qz_terms.specs.declared.plan.Bound.{Bound}
use Rattle.qz_terms.specs.declared.record.Event.{Event}
use Rattle.qz_terms.specs.declared.record.Learned.{Learned}
use Rattle.qz_agreement.specs.Fitting.{Fits, StartFits}
use Rattle.qz_agreement.proofs.fitting.fits.Goals as goal

pub returns-in-Started : goal.returns-in-Started
returns-in-Started c =
    let d = c.args.catalog.now in
    let r = c.args.record.now in
    let s = c.in-Started in
    subst (λ (e : Event). IfOk c.start_fits.result (λ b. Decides b (Fits d c.args.quiz r e))) (sym s.is)
    (subst (λ (ls : List Learned). IfOk c.start_fits.result (λ b. Decides b (IsSomeAnd r.terms (λ t. StartFits d t s.quiz r.owner s.behaviour s.bounds ls)))) c.as_slice-in-Started.ensures
    (subst (λ (bs : List Bound). IfOk c.start_fits.result (λ b. Decides b (IsSomeAnd r.terms (λ t. StartFits d t s.quiz r.owner s.behaviour bs c.as_slice-in-Started.result.now)))) c.as_slice.ensures c.start_fits.ensures))
