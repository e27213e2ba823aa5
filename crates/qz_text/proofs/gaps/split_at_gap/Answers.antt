use Rattle.std.proofs.lemmas.List.{take_rest}
use Rattle.qz_text.proofs.GapsLemmas.{parts_between_gaps-none, parts_between_gaps-at}
use Rattle.qz_text.proofs.gaps.split_at_gap.Goals as goal

pub returns-in_err-place-clause-cut : goal.returns-in_err-place-clause-cut
returns-in_err-place-clause-cut c = rw c.from_residual.ensures (parts_between_gaps-none c.args.parts.now c.in_err-place.ensures)

pub returns-clause-cut : goal.returns-clause-cut
returns-clause-cut c =
    rw (take_rest) (parts_between_gaps-at c.args.parts.now c.in_ok-place.place c.in_ok-place.ensures.0 c.in_ok-place.ensures.1)
