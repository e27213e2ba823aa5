use Rattle.std.proofs.Common.{Option, ℕ, subst}
use Rattle.qz_agreement.specs.Findings.{AreJudged}
use Rattle.qz_agreement.proofs.Final.{first-told, found-inside, none-found}
use Rattle.qz_agreement.proofs.disagreement.first_disagreement.Goals as goal

pub told-requires : goal.told-requires
told-requires c = found-inside c.args.catalog.now c.args.records.now c.in-Some.index (subst (λ (o : Option ℕ). AreJudged c.args.catalog.now c.args.records.now o) c.in-Some.is c.in_ok-index.ensures)

pub returns-in-Some : goal.returns-in-Some
returns-in-Some c =
    first-told c.args.catalog.now c.args.records.now c.in-Some.index c.told.result c.len.result c.len.ensures.count
    (subst (λ (o : Option ℕ). AreJudged c.args.catalog.now c.args.records.now o) c.in-Some.is c.in_ok-index.ensures) c.told.ensures

pub returns-in-None : goal.returns-in-None
returns-in-None c = none-found c.args.catalog.now c.args.records.now (subst (λ (o : Option ℕ). AreJudged c.args.catalog.now c.args.records.now o) c.in-None.is c.in_ok-index.ensures)
