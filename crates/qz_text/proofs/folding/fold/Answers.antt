use Rattle.std.proofs.Common.{encode_utf8_all, ap, ◌∙◌}
use Rattle.std.specs.Str.{chars}
use Rattle.caseless.specs.Caseless.{default_case_fold}
use Rattle.qz_text.specs.Patterns.{folded}
use Rattle.qz_text.proofs.FoldedLemmas.{chars-trim}
use Rattle.qz_text.proofs.folding.fold.Goals as goal

pub returns : goal.returns
unfolding folded
returns c =
    let trimmed_chars = ap chars c.trim.ensures.trim ∙ chars-trim c.args.text.now c.utf8.text in
    c.in_ok-default_case_fold_str.ensures ∙ ap (λ cs. encode_utf8_all (default_case_fold cs)) trimmed_chars
