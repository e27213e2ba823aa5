use Rattle.std.proofs.Common.{ℕ, List, ◌++◌, string_bytes, codes, ap, ◌∙◌, append_assoc}
use Rattle.qz_wire.specs.Escapes.{text_word}
use Rattle.qz_wire.proofs.EscapeLemmas.{word-one}
use Rattle.qz_json.proofs.WordLemmas.{word-added}
use Rattle.qz_json.proofs.arguments.text_onto.Goals as goal

pub returns : goal.returns
returns c =
    let is = c.in_ok-text_word_onto.ensures.added ∙ ap (λ (b : List ℕ). b ++ text_word c.args.text.now) c.in_ok-push_str.ensures.bytes ∙ append_assoc (string_bytes c.args.line.now) (codes " ") (text_word c.args.text.now) in
    word-added (string_bytes c.args.line.now) (string_bytes c.text_word_onto.new.out) (text_word c.args.text.now) is (word-one c.args.text.now)
