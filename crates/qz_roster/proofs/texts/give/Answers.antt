use Rattle.std.proofs.Common.{◌≡◌, rules, ℕ, List, cond, Option, Some, None, refl, sym, ap, ◌∙◌}
use Rattle.std.specs.BTreeMap.{get_by_text}
use Rattle.std.specs.Option.{option_or}
use Rattle.std.specs.Prelude.{bytes_eq, if◌then◌else◌, option_and_then}
use Rattle.std.proofs.lemmas.Map.Text.{btree_map_updates_text}
use Rattle.qz_roster.specs.Texts.{value_at}
use Rattle.qz_roster.proofs.TextLemmas.{given}
use Rattle.qz_roster.proofs.texts.give.Goals as goal

pub returns : goal.returns
returns g c = λ t.
    let bs = c.as_str.result.now in
    let there : get_by_text c.args.texts.now bs ≡ Some c.in-Some.place.now = sym c.in-Some.ensures.value in
    let sets = btree_map_updates_text bs c.args.texts.now (c.get_mut.follows.lender c.or.result) _ ((c.get_mut.follows.holds c.or.result).3 (search rules)) t in
    ap (option_and_then (λ (v : Option _). v)) sets
    ∙ ap (λ (w : Option _). option_and_then (λ (v : Option _). v) (cond (bytes_eq bs t) (Some w) (get_by_text c.args.texts.now t))) c.or.ensures
    ∙ given (get_by_text c.args.texts.now) bs t c.args.value c.in-Some.place.now (bytes_eq bs t) refl there
    ∙ ap (λ (k : List ℕ). option_or (value_at c.args.texts.now t) (if bytes_eq k t then Some c.args.value else None)) c.as_str.ensures
