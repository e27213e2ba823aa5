use Rattle.std.proofs.Common.{◌≡◌, ◌<◌, ◌∷◌, ◌++◌, [], List, arith, ap, get_or, length, subst, sym, ◌∙◌}
use Rattle.qz_terms.specs.declared.record.Record.{Record}
use Rattle.qz_terms.specs.Legal.{IsAllowedInCatalog}
use Rattle.qz_terms.proofs.Walks.{take-one_more}
use Rattle.qz_agreement.proofs.Sweeping.{allowed-at}
use Rattle.qz_agreement.proofs.sweep.grow.Goals as goal

pub adopt-requires-clause-allowed : goal.adopt-requires-clause-allowed
adopt-requires-clause-allowed c =
    let whole = c.args.whole.now in
    let place = c.loop-place.place in
    let read = c.index-records-place.result in
    let test = c.loop-place-test.true in
    let within = c.requires.within in
    let inside : place < length whole = omega (arith, test, within) in
    subst (λ (l : List Record). IsAllowedInCatalog l c.in_ok-next.next) (sym c.loop-place.invariant)
    (allowed-at whole place c.in_ok-next.next c.records-records.ensures.legal inside
    (subst (λ (r : Record). r ≡ get_or whole place r) (sym c.in_ok-next.ensures) (c.index-records-place.is ∙ ap (λ (l : List Record). get_or l place read) c.records-records.ensures.list)))

pub loop-place-preserved : goal.loop-place-preserved
loop-place-preserved c =
    let whole = c.args.whole.now in
    let place = c.loop-place.place in
    let read = c.index-records-place.result in
    let test = c.loop-place-test.true in
    let within = c.requires.within in
    let inside : place < length whole = omega (arith, test, within) in
    let next : c.in_ok-next.next ≡ get_or whole place c.in_ok-next.next = subst (λ (r : Record). r ≡ get_or whole place r) (sym c.in_ok-next.ensures) (c.index-records-place.is ∙ ap (λ (l : List Record). get_or l place read) c.records-records.ensures.list) in
    c.in_ok-adopt.ensures.list ∙ ap (λ (l : List Record). l ++ c.in_ok-next.next ∷ []) c.loop-place.invariant ∙ sym (take-one_more whole place c.in_ok-next.next inside next)
