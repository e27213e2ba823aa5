use Rattle.std.proofs.Common.{String, Global, string_bytes, rules, tests, ◌∙◌}
use Rattle.std.specs.BTreeMap.{keys}
use Rattle.std.proofs.lemmas.Iterator.Consumers.{YieldsList-from_rest}
use Rattle.std.proofs.lemmas.Iterator.Search.{all_from_yields_List}
use Rattle.qz_json.specs.Arguments.{is_wanted}
use Rattle.qz_json.proofs.ArgumentLemmas.{all-wanted}
use Rattle.qz_json.proofs.arguments.has_no_other.Goals as goal

pub returns : goal.returns
returns c =
    all_from_yields_List (λ (k : String Global). is_wanted c.args.verb (string_bytes k)) _ _ _ c.all.ensures.ran (YieldsList-from_rest (keys c.args.members.now) c.keys.ensures.rest) (λ x b q k. search (rules, tests))
    ∙ all-wanted c.args.verb c.args.members.now.entries
