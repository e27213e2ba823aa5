use Rattle.std.proofs.Common.{subst, sym}
use Rattle.std.proofs.lemmas.Bool.{false≢true}
use Rattle.std.proofs.lemmas.Bool.Decides.{Decides-eqb}
use Rattle.std.proofs.lemmas.Slice.Eq.{ends_is}
use Rattle.qz_text.specs.Gaps.{EndingFits, parts_between_gaps}
use Rattle.qz_text.proofs.FitsLemmas.{EndingFits-nowhere, EndingFits-after, EndingFits-last, EndingFits-from_last}
use Rattle.qz_text.proofs.GapsLemmas.{HasFirst-parts_between_gaps}
use Rattle.qz_text.proofs.matching.ending_fits.Goals as goal

pub returns-in_default-after_first : goal.returns-in_default-after_first
returns-in_default-after_first c =
    let rest = c.loop-part.rest.now in
    let after = parts_between_gaps c.in-Some.after.now in (
      λ never. absurd (false≢true never),
      λ h.
          absurd (EndingFits-nowhere rest c.in-Some.part.now after c.in_default-after_first.ensures
          (subst (λ parts. EndingFits parts rest) c.in-Some.ensures.cut (c.loop-part.invariant.0 h))),
    )

pub loop-part-preserved : goal.loop-part-preserved
loop-part-preserved c =
    let rest = c.loop-part.rest.now in
    let after = parts_between_gaps c.in-Some.after.now in
    let step =
    EndingFits-after rest c.in-Some.part.now c.in-Some-after_first.left.now after (HasFirst-parts_between_gaps c.in-Some.after.now)
    c.in-Some-after_first.ensures in (
      λ h. step.0 (subst (λ parts. EndingFits parts rest) c.in-Some.ensures.cut (c.loop-part.invariant.0 h)),
      λ h. c.loop-part.invariant.1 (subst (λ parts. EndingFits parts rest) (sym c.in-Some.ensures.cut) (step.1 h)),
    )

pub returns : goal.returns
returns c =
    let rest = c.loop-part.rest.now in
    let part = c.loop-part.later.now in
    let ends = ends_is Decides-eqb rest part c.ends_with.result c.ends_with.ensures.value in
    let one = c.in_default.ensures.cut in (
      λ yes. c.loop-part.invariant.1 (subst (λ parts. EndingFits parts rest) (sym one) (EndingFits-from_last rest part _ (ends.0 yes))),
      λ h.
          let last = EndingFits-last rest part (subst (λ parts. EndingFits parts rest) one (c.loop-part.invariant.0 h)) in
          ends.1 last.0 last.1,
    )
