use Rattle.std.proofs.Common.{◌++◌, append-nil, sym, ap, ◌∙◌}
use Rattle.qz_text.specs.Gaps.{joined, parts_between_gaps}
use Rattle.qz_text.specs.Patterns.{plain_parts}
use Rattle.qz_text.proofs.FoldedLemmas.{All-below_gap}
use Rattle.qz_text.proofs.GapsLemmas.{parts_between_gaps-joined}
use Rattle.qz_text.proofs.gaps.with_gaps.Goals as goal

pub returns : goal.returns
returns c =
    let kept = c.loop-sign.kept.items in
    let whole = sym (append-nil kept) ∙ sym (ap (λ l. kept ++ joined (plain_parts l)) c.in_default.ensures.kept) ∙ c.loop-sign.invariant in
    ap parts_between_gaps whole ∙ parts_between_gaps-joined c.args.pattern.now (All-below_gap c.args.pattern.now c.utf8.pattern)
