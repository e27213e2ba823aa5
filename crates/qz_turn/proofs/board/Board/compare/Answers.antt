use Rattle.std.proofs.Common.{rules, arith}
use Rattle.qz_turn.proofs.Joining.{keeps_compare}
use mathlib.Core.Option.{none}
use Rattle.atomic_table.specs.Table.{step}
use Rattle.qz_turn.proofs.board.Board.compare.Goals as goal

pub load-requires : goal.load-requires
load-requires g c = let sized = c.args.self.now.sized in (search rules, omega arith, keeps_compare _ _ _ _ _ _ _ _ (step 0 0 0 0 none))
