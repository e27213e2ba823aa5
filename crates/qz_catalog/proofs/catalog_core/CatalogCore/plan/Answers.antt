use Rattle.std.proofs.Common.{◌≡◌, true, List, Some, length, option_map, subst}
use Rattle.std.specs.Prelude.{IfOk}
use Rattle.qz_terms.specs.declared.plan.Plan.{Plan}
use Rattle.qz_terms.specs.declared.record.Record.{Record}
use Rattle.qz_terms.specs.Catalog.{plan}
use Rattle.qz_terms.specs.Kept.{IsKeptPlan}
use Rattle.qz_catalog.specs.Holdings.{lean}
use Rattle.qz_catalog.proofs.Kept.{if_ok-more, plan-sound}
use Rattle.qz_catalog.proofs.catalog_core.CatalogCore.plan.Goals as goal

pub returns-clause-kept : goal.returns-clause-kept
returns-clause-kept c =
    let h = c.self.inside.book.records.items in
    let held = c.self.invariant.indexed.held in
    if_ok-more c.plan.result (λ (p : Plan). option_map (lean c.args.whole) (plan h c.args.quiz c.args.user) ≡ Some p) IsKeptPlan (λ p is. (plan-sound h c.self.inside.book.entries c.args.quiz c.args.user c.args.whole p held is).kept) c.plan.ensures.value

pub returns-clause-each : goal.returns-clause-each
returns-clause-each c =
    let h = c.self.inside.book.records.items in
    let held = c.self.invariant.indexed.held in
    if_ok-more c.plan.result (λ (p : Plan). option_map (lean c.args.whole) (plan h c.args.quiz c.args.user) ≡ Some p) (λ (p : Plan). c.args.whole ≡ true → length p.questions ≡ length p.slots) (λ p is. (plan-sound h c.self.inside.book.entries c.args.quiz c.args.user c.args.whole p held is).each) c.plan.ensures.value

pub returns-clause-plan : goal.returns-clause-plan
returns-clause-plan c = subst (λ (h : List Record). IfOk c.plan.result (λ (p : Plan). option_map (lean c.args.whole) (plan h c.args.quiz c.args.user) ≡ Some p)) c.self.view_is c.plan.ensures.value
