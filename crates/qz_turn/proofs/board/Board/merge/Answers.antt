use Rattle.std.proofs.Common.{rules, arith}
use Rattle.qz_turn.proofs.Joining.{keeps_join}
use Rattle.qz_turn.proofs.board.Board.merge.Goals as goal

pub join_seat-requires : goal.join_seat-requires
join_seat-requires g c = let sized = c.args.self.now.sized in (search rules, search rules, search rules, omega arith, keeps_join _ _ _ _ _ _ _ _ _ c.requires.rests.0)
