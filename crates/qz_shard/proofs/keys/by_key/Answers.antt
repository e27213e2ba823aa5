use Rattle.std.proofs.Common.{◌≡◌, List, get_or, sym, subst, ◌∙◌}
use Rattle.qz_terms.specs.declared.record.Record.{Record}
use Rattle.qz_terms.specs.Cause.{spells}
use Rattle.qz_shard.proofs.DecisionLemmas.{key-other, key-same}
use Rattle.qz_shard.proofs.keys.by_key.Goals as goal

pub returns-then-spells : goal.returns-then-spells
returns-then-spells c =
    let book = c.args.book.now in
    let r = c.index-as_slice-replied.result in
    let replied = c.in-Some-look.replied.now in
    let item : r ≡ get_or book replied.at r = subst (λ (l : List Record). r ≡ get_or l replied.at r) c.as_slice.ensures c.index-as_slice-replied.is in
    rw c.in-Some.is (key-same (spells c.args.ask.now.request) c.args.caller c.in-Some.key book replied.at r replied.reply c.in_ok-try_copy.field-0
    (sym (c.in-Some-look.ensures.at book c.requires)) item (c.in-Some-look.ensures.reply book c.requires) c.in_ok-try_copy.ensures (sym c.spells.ensures ∙ c.if-spells.true))

pub returns : goal.returns
returns c =
    let book = c.args.book.now in
    let r = c.index-as_slice-replied.result in
    let replied = c.in-Some-look.replied.now in
    let item : r ≡ get_or book replied.at r = subst (λ (l : List Record). r ≡ get_or l replied.at r) c.as_slice.ensures c.index-as_slice-replied.is in
    rw c.in-Some.is (key-other (spells c.args.ask.now.request) c.args.caller c.in-Some.key book replied.at r replied.reply c.in-Ok.place _
    (sym (c.in-Some-look.ensures.at book c.requires)) item (c.in-Some-look.ensures.reply book c.requires) c.in-Ok.is (sym c.spells.ensures ∙ c.if-spells.false))
