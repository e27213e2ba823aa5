use Rattle.std.proofs.Common.{rules, arith}
use Rattle.qz_turn.proofs.Serving.{keeps_serve}
use mathlib.Core.Option.{none}
use Rattle.atomic_table.specs.Table.{step}
use Rattle.qz_turn.proofs.board.Board.leave.Goals as goal

pub fetch_add-requires : goal.fetch_add-requires
fetch_add-requires g c = let sized = c.args.self.now.sized in (search rules, omega arith, keeps_serve _ _ _ _ _ _ _ _ (step 0 0 0 0 none) c.requires.may)
