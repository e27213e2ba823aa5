use Rattle.std.proofs.Common.{encode_utf8_all, map, ap, sym, ◌∙◌}
use Rattle.qz_text.specs.Patterns.{folded_parts, plain_parts}
use Rattle.qz_text.proofs.FoldedLemmas.{plain_parts-folded}
use Rattle.qz_text.proofs.pattern.Pattern.of.Goals as goal

pub invariant_of-result : goal.invariant_of-result
invariant_of-result c =
    c.in_ok-with_gaps.ensures ∙ ap plain_parts (c.as_str.ensures.value ∙ c.in_ok-folded.ensures) ∙ plain_parts-folded c.args.text.now
    ∙ sym (ap (λ text. map encode_utf8_all (folded_parts text)) c.in_ok-of.ensures)
