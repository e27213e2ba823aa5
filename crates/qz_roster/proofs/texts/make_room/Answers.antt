use Rattle.std.proofs.Common.{◌≡◌, Option, None, refl, sym, ap, ◌∙◌, string_bytes}
use Rattle.std.specs.BTreeMap.{get_by_text}
use Rattle.std.specs.Prelude.{bytes_eq, option_and_then}
use Rattle.std.proofs.lemmas.Map.Text.{btree_map_updates_text}
use Rattle.qz_lemmas.proofs.Options.{none-by}
use Rattle.qz_roster.proofs.TextLemmas.{room-kept}
use Rattle.qz_roster.proofs.texts.make_room.Goals as goal

pub returns-clause-unchanged : goal.returns-clause-unchanged
returns-clause-unchanged g c = λ t.
    let bs = string_bytes c.in_ok-from_str.field-0 in
    let is : bs ≡ c.args.text.now = c.in_ok-from_str.ensures.ok ∙ c.as_str-2.ensures in
    let none : get_by_text c.args.texts.now bs ≡ None = ap (get_by_text c.args.texts.now) (is ∙ sym c.as_str.ensures) ∙ none-by _ (sym c.contains_key.ensures ∙ c.if-contains_key.false) in
    let sets = btree_map_updates_text bs c.args.texts.now c.insert.new.self _ c.in_ok-insert.ensures.updates t in
    ap (option_and_then (λ (v : Option _). v)) sets ∙ room-kept (get_by_text c.args.texts.now) bs t (bytes_eq bs t) refl none
