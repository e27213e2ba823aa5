use Rattle.std.proofs.Common.{◌≡◌, ap, sym, ◌∙◌}
use Rattle.qz_terms.specs.declared.record.Record.{Record}
use Rattle.qz_terms.specs.Catalog.{asked_by}
use Rattle.qz_catalog.specs.Shown.{done_with, is_showable}
use Rattle.qz_roster.proofs.Reading.{some-same}
use Rattle.qz_catalog.proofs.ShownLemmas.{asked-inside, found-at, none-asked, not-asked, number-read, said-told}
use Rattle.qz_catalog.proofs.replies.said.Goals as goal

pub done_with-requires : goal.done_with-requires
done_with-requires c =
    let list = c.args.book.now.records.items in
    let numbers = c.args.book.now.shown.items in
    let found = found-at list c.args.at c.index.result.now c.requires.asked c.index.ensures in
    let shown = c.requires.book.shown.each c.args.at c.index.result.now c.in-Asked.request found (ap asked_by c.in-Asked.is) in
    ap (is_showable c.in-Asked.request) (number-read numbers c.args.at c.index-in-Asked.result.now (asked-inside list numbers c.args.at c.requires.book.shown c.requires.asked) c.index-in-Asked.ensures) ∙ shown.fits

pub unreachable-requires : goal.unreachable-requires
unreachable-requires c = not-asked c.args.book.now.records.items c.args.at c.index.result.now c.requires.asked c.index.ensures (none-asked c.index.result.now.event c.in_default.not-Asked)

pub returns : goal.returns
returns c = λ r at.
    let list = c.args.book.now.records.items in
    let numbers = c.args.book.now.shown.items in
    let found = found-at list c.args.at c.index.result.now c.requires.asked c.index.ensures in
    let same : c.index.result.now ≡ r = some-same c.index.result.now r (sym found ∙ at) in
    let event = ap (λ (s : Record). s.event) (sym same) ∙ c.in-Asked.is in
    let number = number-read numbers c.args.at c.index-in-Asked.result.now (asked-inside list numbers c.args.at c.requires.book.shown c.requires.asked) c.index-in-Asked.ensures in
    said-told list numbers c.args.at r c.in-Asked.request c.done_with.result c.requires.book.shown at event (ap asked_by event) (c.done_with.ensures ∙ ap (done_with c.in-Asked.request) number)
