use Rattle.std.proofs.Common.{List, rules, length, subst, sym}
use Rattle.std.specs.List.Sorted.{IsNonDecreasingBy, IsPermutation}
use Rattle.std.specs.Prelude.{Option, ℕ}
use Rattle.std.proofs.lemmas.List.Elements.{All-same}
use Rattle.std.proofs.lemmas.List.Sorted.{All-permutation, IsNonDecreasingBy-from_sort_by_key}
use Rattle.std.proofs.lemmas.Result.{IfOk-weaker}
use Rattle.qz_agreement.specs.declared.findings.Claim.{Claim}
use Rattle.qz_agreement.specs.Findings.{AreJudged, AreSwept, IsClaim}
use Rattle.qz_agreement.proofs.Final.{all-judged}
use Rattle.qz_agreement.proofs.disagreement.first_bad.Goals as goal

pub sweep-requires-clause-claims : goal.sweep-requires-clause-claims
sweep-requires-clause-claims c =
    let P = IsClaim c.args.catalog.now c.args.records.now in
    All-same P c.deref.result.now _ c.deref.ensures.value (All-permutation P _ _ c.in_ok-sort_by_key.ensures.permutation c.in_ok-findings.ensures.findings.claims)

pub sweep-requires-clause-sorted : goal.sweep-requires-clause-sorted
sweep-requires-clause-sorted c =
    subst (λ (l : List Claim). IsNonDecreasingBy (λ (a : Claim). a.at) l) (sym c.deref.ensures.value)
    (IsNonDecreasingBy-from_sort_by_key (λ (a : Claim). a.at) _ c.in_ok-sort_by_key.ensures.sorted (λ a r q k. search rules))

pub returns : goal.returns
returns c =
    let d = c.args.catalog.now in
    let h = c.args.records.now in
    let f = c.in_ok-findings.findings in
    IfOk-weaker c.sweep.result (λ (last : Option ℕ). AreSwept d h c.deref.result.now f.first last (length c.deref.result.now)) (λ (last : Option ℕ). AreJudged d h last)
    (λ last swept. all-judged d h f c.deref.result.now last c.in_ok-findings.ensures (subst (λ (l : List Claim). IsPermutation f.claims.items l) (sym c.deref.ensures.value) c.in_ok-sort_by_key.ensures.permutation) swept)
    c.sweep.ensures
