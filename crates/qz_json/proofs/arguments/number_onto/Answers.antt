use Rattle.std.proofs.Common.{string_bytes, decimal, rules, arith}
use Rattle.qz_json.proofs.WordLemmas.{number-one, word-added}
use Rattle.qz_json.proofs.arguments.number_onto.Goals as goal

pub returns : goal.returns
returns c = word-added (string_bytes c.args.line.now) (string_bytes c.write.new.self) (decimal c.args.number) (search rules) (number-one c.args.number (omega arith))
