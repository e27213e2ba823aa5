use Rattle.std.proofs.Common.{encode_utf8_all, map, ap, ◌∙◌}
use Rattle.std.proofs.lemmas.Bool.Decides.{same_from_decides}
use Rattle.qz_text.specs.Gaps.{parts_between_gaps}
use Rattle.qz_text.specs.Patterns.{folded, folded_parts, pattern_fits}
use Rattle.qz_text.proofs.EncodedLemmas.{Decides-decoded}
use Rattle.qz_text.proofs.FitsLemmas.{fits_parts-Decides}
use Rattle.qz_text.proofs.pattern.Pattern.fits.Goals as goal

pub returns-clause-meaning : goal.returns-clause-meaning
returns-clause-meaning c =
    let pattern = c.args.self.now in
    let typed = c.args.typed.now in
    let kept = ap parts_between_gaps c.deref.ensures.value ∙ c.self.invariant ∙ ap (λ text. map encode_utf8_all (folded_parts text)) c.self.view_is in
    Decides-decoded (folded_parts pattern) _ (folded typed) _ c.fits_parts.result kept (c.as_bytes.ensures.value ∙ c.compared.ensures) c.as_bytes.ensures.utf8
    c.fits_parts.ensures

pub returns-clause-value : goal.returns-clause-value
unfolding pattern_fits
returns-clause-value c =
    let pattern = c.args.self.now in
    let typed = c.args.typed.now in
    same_from_decides c.fits_parts.result (pattern_fits pattern typed) (returns-clause-meaning c) (fits_parts-Decides (folded_parts pattern) (folded typed))
