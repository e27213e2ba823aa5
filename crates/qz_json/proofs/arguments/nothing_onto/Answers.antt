use Rattle.std.proofs.Common.{[], string_bytes, refl, rules}
use Rattle.qz_json.proofs.WordLemmas.{word-added}
use Rattle.qz_json.proofs.arguments.nothing_onto.Goals as goal

pub returns : goal.returns
returns c = word-added (string_bytes c.args.line.now) (string_bytes c.push_str.new.self) [] (search rules) refl
