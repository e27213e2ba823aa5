use Rattle.std.proofs.Common.{refl}
use Rattle.qz_turn.proofs.Closing.{keeps_new}
use Rattle.qz_turn.proofs.board.Board.new.Goals as goal

pub new-requires : goal.new-requires
new-requires g c = rw (c.of.ensures, c.of-2.ensures, c.in_ok-row.ensures.ok) (keeps_new g.T.Told.tells g.T.Told.fits c.args.key.now c.args.seats _ c.args.value c.requires c.ranges.seats.fits refl)
