use Rattle.std.proofs.Common.{◌≡◌, ℕ, List, Bor, map, take, ap, ◌∙◌, arith}
use Rattle.std.proofs.lemmas.List.{take_all}
use Rattle.serde_json.specs.Find.{get}
use Rattle.serde_json.specs.View.{view}
use Rattle.qz_json.specs.Arguments.{word_for, arguments_of}
use Rattle.qz_json.specs.declared.arguments.Form.{Form}
use Rattle.qz_json.proofs.ArgumentLemmas.{shown-words}
use Rattle.qz_json.proofs.arguments.words_in.Goals as goal

pub returns : goal.returns
returns c =
    let items = c.arguments-name-items.result.now in
    let every : take c.loop-name.name-index items ≡ items = take_all c.loop-name.name-index items (omega arith) in
    c.loop-name.invariant
    ∙ ap (map (λ (a : Bor (List ℕ) × Form). word_for a.1 (get a.0.now (view c.args.body.now)))) every
    ∙ shown-words items (arguments_of c.args.verb) (view c.args.body.now) c.arguments-name-items.ensures
