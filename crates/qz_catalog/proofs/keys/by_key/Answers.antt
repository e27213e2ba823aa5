use Rattle.std.proofs.Common.{sym, ◌∙◌}
use Rattle.qz_terms.specs.Cause.{keeps_request}
use Rattle.qz_catalog.proofs.KeyLemmas.{key-nowhere, key-same, key-other}
use Rattle.qz_catalog.proofs.keys.by_key.Goals as goal

pub returns-in_default-place_under : goal.returns-in_default-place_under
returns-in_default-place_under c = rw c.in-Some.is (key-nowhere (keeps_request c.args.request.now) c.args.caller c.in-Some.key c.args.book.now.records.items (sym c.place_under.ensures ∙ c.in_default-place_under.is))

pub returns-then-keeps_request : goal.returns-then-keeps_request
returns-then-keeps_request c = rw c.in-Some.is (key-same c.args.request.now c.args.caller c.in-Some.key c.args.book.now.records.items c.in-Some-place_under.at c.index.result.now (sym c.place_under.ensures ∙ c.in-Some-place_under.is) c.index.ensures (sym c.keeps_request.ensures ∙ c.if-keeps_request.true))

pub returns : goal.returns
returns c = rw c.in-Some.is (key-other c.args.request.now c.args.caller c.in-Some.key c.args.book.now.records.items c.in-Some-place_under.at c.index.result.now c.requires.held.legal (sym c.place_under.ensures ∙ c.in-Some-place_under.is) c.index.ensures (sym c.keeps_request.ensures ∙ c.if-keeps_request.false))
