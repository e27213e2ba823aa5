use Rattle.std.proofs.Common.{◌≡◌, ℕ, List, Bor, map, take, string_bytes}
use Rattle.serde_json.specs.Find.{get}
use Rattle.serde_json.specs.View.{view}
use Rattle.qz_wire.specs.Words.{words_after}
use Rattle.qz_json.specs.Arguments.{word_for}
use Rattle.qz_json.specs.declared.arguments.Form.{Form}
use Rattle.qz_json.proofs.arguments.words_in.Given as goal

abbrev pub invariant-loop-name : goal.invariant-loop-name
invariant-loop-name l = words_after (string_bytes l.line) ≡ map (λ (a : Bor (List ℕ) × Form). word_for a.1 (get a.0.now (view l.body))) (take l.name-index l.name-items)
