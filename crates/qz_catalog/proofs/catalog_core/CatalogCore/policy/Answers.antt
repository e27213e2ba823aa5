use Rattle.std.proofs.Common.{◌≡◌, sym, subst}
use Rattle.qz_decimal.specs.Numbers.{IsMaxSum, IsQuizGrade}
use Rattle.qz_terms.specs.declared.grades.Policy.{Policy}
use Rattle.qz_terms.specs.Catalog.{policy}
use Rattle.qz_catalog.proofs.Kept.{grade-within, if_ok-more, sum-within}
use Rattle.qz_catalog.proofs.catalog_core.CatalogCore.policy.Goals as goal

pub returns-clause-grade : goal.returns-clause-grade
returns-clause-grade c =
    let h = c.self.inside.book.records.items in
    let held = c.self.invariant.indexed.held in
    if_ok-more c.policy_of.result (λ (p : Policy). p ≡ policy h c.args.quiz) (λ (p : Policy). IsQuizGrade p.grade) (λ p is. subst (λ (x : Policy). IsQuizGrade x.grade) (sym is) (grade-within h c.self.inside.book.entries c.args.quiz held)) c.policy_of.ensures.value

pub returns-clause-sum : goal.returns-clause-sum
returns-clause-sum c =
    let h = c.self.inside.book.records.items in
    let held = c.self.invariant.indexed.held in
    if_ok-more c.policy_of.result (λ (p : Policy). p ≡ policy h c.args.quiz) (λ (p : Policy). IsMaxSum p.sum) (λ p is. subst (λ (x : Policy). IsMaxSum x.sum) (sym is) (sum-within h c.self.inside.book.entries c.args.quiz held)) c.policy_of.ensures.value
