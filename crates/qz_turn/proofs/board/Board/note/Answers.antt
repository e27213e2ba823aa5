use Rattle.std.proofs.Common.{rules, arith}
use Rattle.qz_turn.proofs.Splitting.{keeps_note}
use Rattle.qz_turn.proofs.board.Board.note.Goals as goal

pub split_seat-requires : goal.split_seat-requires
split_seat-requires g c = let sized = c.args.self.now.sized in (search rules, omega arith, keeps_note _ _ _ _ _ _ _)
