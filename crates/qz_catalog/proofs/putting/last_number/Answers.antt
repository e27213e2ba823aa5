use Rattle.std.proofs.Common.{◌≡◌, length, refl, ap, sym, subst, ◌∙◌, arith}
use Rattle.std.proofs.lemmas.Option.{slice_get_read}
use Rattle.qz_terms.specs.declared.request.Request.{Request}
use Rattle.qz_terms.specs.Catalog.{asked, asked_by}
use Rattle.qz_roster.proofs.Reading.{some-same}
use Rattle.qz_catalog.specs.Holdings.{IsShownBy}
use Rattle.qz_catalog.proofs.ShownLemmas.{last-short}
use Rattle.qz_catalog.proofs.putting.last_number.Goals as goal

pub number_of-requires-clause-short : goal.number_of-requires-clause-short
number_of-requires-clause-short c =
    let list = c.args.book.now.records.items in
    let found = slice_get_read list (length list) c.args.at c.index.result.now refl (let last = c.requires.last in omega arith) c.index.ensures in
    last-short list c.args.book.now.entries c.args.at c.index.result.now c.in-Asked.request c.requires.indexed.held c.requires.last found (ap asked_by c.in-Asked.is)

pub returns-in-Asked : goal.returns-in-Asked
returns-in-Asked c = λ x r at asks.
    let list = c.args.book.now.records.items in
    let found = slice_get_read list (length list) c.args.at c.index.result.now refl (let last = c.requires.last in omega arith) c.index.ensures in
    let same : c.index.result.now ≡ r = some-same c.index.result.now r (sym found ∙ at) in
    let request : c.in-Asked.request ≡ x = some-same c.in-Asked.request x (sym (ap asked_by c.in-Asked.is) ∙ ap asked same ∙ asks) in
    subst (λ (y : Request). IsShownBy list y c.number_of.result) request c.number_of.ensures
