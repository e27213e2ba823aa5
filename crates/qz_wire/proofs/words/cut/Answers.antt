use Rattle.std.proofs.Common.{arith, sym, ◌∙◌}
use Rattle.qz_wire.proofs.PartLemmas.{cut_at, first_is, uncut}
use Rattle.qz_wire.proofs.words.cut.Goals as goal

pub split_at-requires-2 : goal.split_at-requires-2
split_at-requires-2 c = omega (arith, (first_is c.args.byte c.args.text.now c.in_ok-place.place (sym c.place_of.ensures ∙ c.in_ok-place.was)).inside)

pub returns-in_err-place : goal.returns-in_err-place
returns-in_err-place c = rw c.from_residual.ensures (uncut c.args.byte c.args.text.now (sym c.place_of.ensures ∙ c.in_err-place.was))

pub returns : goal.returns
returns c = rw (c.split_at.ensures.front, c.split_at-2.ensures.back) (cut_at c.args.byte c.args.text.now c.in_ok-place.place (sym c.place_of.ensures ∙ c.in_ok-place.was))

pub split_at-requires : goal.split_at-requires
split_at-requires c = omega (arith, (first_is c.args.byte c.args.text.now c.in_ok-place.place (sym c.place_of.ensures ∙ c.in_ok-place.was)).inside)
