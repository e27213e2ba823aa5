use Rattle.std.proofs.Common.{◌≡◌, false, sym, ap, ◌∙◌}
use Rattle.std.specs.BTreeMap.{get_by_text}
use Rattle.std.specs.Prelude.{is_some, string_bytes}
use Rattle.qz_lemmas.proofs.Options.{none-by}
use Rattle.qz_index.proofs.TextLemmas.{text_made}
use Rattle.qz_index.proofs.texts.Texts.grow.Goals as goal

pub returns-in_ok-insert-clause-same : goal.returns-in_ok-insert-clause-same
returns-in_ok-insert-clause-same c = λ text.
    let m = c.args.self.now.replied in
    let copied : string_bytes c.in_ok-copy.copy ≡ c.as_str.result.now = c.in_ok-copy.ensures.ok ∙ c.as_str-then-not-contains_key.ensures ∙ sym c.as_str.ensures in
    let missing : is_some (get_by_text m c.as_str.result.now) ≡ false = sym c.contains_key.ensures ∙ c.if-not-contains_key.true in
    text_made m c.insert.new.self (string_bytes c.in_ok-copy.copy) c.in_ok-insert.ensures.updates (ap (get_by_text m) copied ∙ none-by (get_by_text m c.as_str.result.now) missing) text
