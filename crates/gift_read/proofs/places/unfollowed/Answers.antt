use Rattle.std.proofs.Common.{◌≡◌, sym, ◌∙◌, arith}
use Rattle.gift_lex.specs.declared.block.Piece.TheVariants.{Escaped}
use Rattle.gift_read.proofs.PlaceLemmas.{before_blank-take}
use Rattle.gift_read.proofs.places.unfollowed.Goals as goal

pub returns-then-not-is_space : goal.returns-then-not-is_space
returns-then-not-is_space c =
    c.split_at.ensures.front
    ∙ sym (before_blank-take c.args.marks.now c.loop-end.end (Escaped 0) c.loop-end.invariant.1 c.loop-end.invariant.0 (λ lt. sym c.is_space.ensures ∙ c.if-not-is_space.true))

pub returns : goal.returns
returns c =
    let none : c.loop-end.end ≡ 0 = omega arith in
    let blank = rw none at c.loop-end.invariant.0 in
    c.split_at-2.ensures.front ∙ sym (before_blank-take c.args.marks.now 0 (Escaped 0) (omega arith) blank (λ lt. absurd (omega arith)))
