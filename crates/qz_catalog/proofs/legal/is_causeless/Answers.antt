use Rattle.std.proofs.Common.{◌≡◌, None, sym, ◌∙◌}
use Rattle.std.specs.Bool.{Decides}
use Rattle.std.specs.Prelude.{is_none}
use Rattle.std.proofs.lemmas.Result.{IfOk-weaker}
use Rattle.qz_terms.specs.Cause.{cause_in}
use Rattle.qz_catalog.specs.Applying.{bank_cause, early_cause, stand_in}
use Rattle.qz_catalog.proofs.Allowing.{causeless, not-some}
use Rattle.qz_catalog.proofs.legal.is_causeless.Goals as goal

pub returns : goal.returns
returns c =
    let list = c.args.book.now.records.items in
    let bank = c.args.book.now.entries in
    let x = c.args.request.now in
    let key = c.args.key.now in
    let early : early_cause list key x ≡ None = sym c.early_cause.ensures ∙ not-some c.early_cause.result (sym c.is_some.ensures ∙ c.if-is_some.false) in
    IfOk-weaker c.can_change.result (λ b. Decides b (bank_cause bank x ≡ None)) (λ b. b ≡ is_none (cause_in list (stand_in key x) x))
    (λ b decides. causeless list bank key x b c.requires.indexed.held.bank c.requires.there early decides) c.can_change.ensures
