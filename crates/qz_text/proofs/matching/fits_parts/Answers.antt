use Rattle.std.proofs.Common.{Some, None, subst, sym}
use Rattle.std.proofs.lemmas.Bool.{false≢true}
use Rattle.std.proofs.lemmas.Bool.Decides.{Decides-eqb}
use Rattle.std.proofs.lemmas.Slice.Eq.{strip_prefix_is}
use Rattle.qz_text.specs.Gaps.{parts_between_gaps}
use Rattle.qz_text.specs.Patterns.{FitsParts}
use Rattle.qz_text.proofs.FitsLemmas.{FitsParts-front, FitsParts-after}
use Rattle.qz_text.proofs.GapsLemmas.{HasFirst-parts_between_gaps}
use Rattle.qz_text.proofs.matching.fits_parts.Goals as goal

pub returns-in-None : goal.returns-in-None
returns-in-None c =
    let text = c.args.text.now in
    let later = parts_between_gaps c.in-Some.later.now in
    let apart = strip_prefix_is Decides-eqb text c.in-Some.first.now None c.in-None.ensures.cases in (
      λ never. absurd (false≢true never),
      λ h.
          let front = FitsParts-front c.in-Some.first.now text later (subst (λ parts. FitsParts parts text) c.in-Some.ensures.cut h) in
          absurd (apart front.0 front.1),
    )

pub returns-in-Some-strip_prefix : goal.returns-in-Some-strip_prefix
returns-in-Some-strip_prefix c =
    let text = c.args.text.now in
    let later = parts_between_gaps c.in-Some.later.now in
    let split = strip_prefix_is Decides-eqb text c.in-Some.first.now (Some c.in-Some-strip_prefix.rest) c.in-Some-strip_prefix.ensures.cases in
    let step = FitsParts-after c.in-Some.first.now text c.in-Some-strip_prefix.rest.now later (HasFirst-parts_between_gaps c.in-Some.later.now) split in (
      λ yes. subst (λ parts. FitsParts parts text) (sym c.in-Some.ensures.cut) (step.1 (c.ending_fits.ensures.0 yes)),
      λ h. c.ending_fits.ensures.1 (step.0 (subst (λ parts. FitsParts parts text) c.in-Some.ensures.cut h)),
    )
