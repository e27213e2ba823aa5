use Rattle.std.proofs.Common.{◌≡◌, List, arith, ap, get_or, subst, sym, ◌∙◌}
use Rattle.qz_terms.specs.declared.record.Record.{Record}
use Rattle.qz_agreement.proofs.Sweeping.{allowed-at}
use Rattle.qz_agreement.proofs.sweep.begun.Goals as goal

pub begin-requires-clause-allowed : goal.begin-requires-clause-allowed
begin-requires-clause-allowed c =
    let whole = c.args.whole.now in
    let some = c.records.ensures.some in
    let read = c.index-records-0.result in
    allowed-at whole 0 c.in_ok-try_copy.field-0 c.records.ensures.legal (omega (arith, some))
    (subst (λ (r : Record). r ≡ get_or whole 0 r) (sym c.in_ok-try_copy.ensures) (c.index-records-0.is ∙ ap (λ (l : List Record). get_or l 0 read) c.records.ensures.list))
