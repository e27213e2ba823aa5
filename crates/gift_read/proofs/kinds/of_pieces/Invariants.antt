use Rattle.std.proofs.Common.{◌≡◌, ◌++◌, length, map}
use Rattle.gift_read.specs.Places.{is_at}
use Rattle.gift_read.specs.Parts.{cut, pieces}
use Rattle.gift_read.proofs.kinds.of_pieces.Given as goal

abbrev pub invariant-loop-items : goal.invariant-loop-items
invariant-loop-items g l =
    l.items.items ++ map (g.T.OfPiece.piece_gives l.format) (cut (is_at l.begins) l.sign l.rest)
    ≡ map (g.T.OfPiece.piece_gives l.format) (pieces (is_at l.begins) l.fn.sign l.marks)

abbrev pub decreases-loop-items : goal.decreases-loop-items
decreases-loop-items g l = length l.rest
