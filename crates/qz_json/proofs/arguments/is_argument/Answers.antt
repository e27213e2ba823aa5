use Rattle.std.proofs.Common.{ℕ, List, Bor, bytes_eq, rules, tests, sym, ap, ◌∙◌}
use Rattle.std.specs.List.{list_any}
use Rattle.std.proofs.lemmas.Iterator.{YieldsList-from_slice}
use Rattle.std.proofs.lemmas.Iterator.Search.{any_from_yields_List}
use Rattle.qz_json.specs.declared.arguments.Form.{Form}
use Rattle.qz_json.proofs.ArgumentLemmas.{any_of_map}
use Rattle.qz_json.proofs.arguments.is_argument.Goals as goal

pub returns : goal.returns
returns c =
    let test = λ (a : List ℕ × Form). bytes_eq c.args.name.now a.0 in
    let shown : Bor (List ℕ) × Form → List ℕ × Form = λ a. (a.0.now, a.1) in
    any_from_yields_List (λ (a : Bor (List ℕ) × Form). bytes_eq c.args.name.now a.0.now) _ _ _ c.any.ensures.ran (YieldsList-from_slice c.arguments.result.now cc) (λ x b q k. search (rules, tests))
    ∙ sym (any_of_map test shown c.arguments.result.now) ∙ ap (list_any test) c.arguments.ensures
