use Rattle.std.proofs.Common.{◌≡◌, Some, length}
use Rattle.qz_terms.specs.declared.plan.Job.{Job}
use Rattle.qz_terms.specs.Catalog.{job}
use Rattle.qz_terms.specs.Kept.{IsKeptPlan}
use Rattle.qz_catalog.proofs.Kept.{if_ok-more, job-sound}
use Rattle.qz_catalog.proofs.catalog_core.CatalogCore.job.Goals as goal

pub returns-clause-kept : goal.returns-clause-kept
returns-clause-kept c =
    let h = c.self.inside.book.records.items in
    let held = c.self.invariant.indexed.held in
    if_ok-more c.job.result (λ (j : Job). job h c.args.number ≡ Some j) (λ (j : Job). IsKeptPlan j.plan) (λ j is. (job-sound h c.self.inside.book.entries c.args.number j held is).kept) c.job.ensures.value

pub returns-clause-each : goal.returns-clause-each
returns-clause-each c =
    let h = c.self.inside.book.records.items in
    let held = c.self.invariant.indexed.held in
    if_ok-more c.job.result (λ (j : Job). job h c.args.number ≡ Some j) (λ (j : Job). length j.plan.questions ≡ length j.plan.slots) (λ j is. (job-sound h c.self.inside.book.entries c.args.number j held is).each) c.job.ensures.value
