use Rattle.std.proofs.Common.{rules, arith}
use Rattle.qz_turn.proofs.Splitting.{keeps_deal}
use Rattle.qz_turn.proofs.board.Board.deal.Goals as goal

pub split_seat-requires : goal.split_seat-requires
split_seat-requires g c = let sized = c.args.self.now.sized in (search rules, omega arith, keeps_deal _ _ _ _ _ _ _ c.requires.rests)
