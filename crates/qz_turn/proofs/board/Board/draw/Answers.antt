use Rattle.std.proofs.Common.{rules, arith}
use Rattle.qz_turn.proofs.Drawing.{keeps_draw, some_stand}
use mathlib.Core.Option.{none}
use Rattle.atomic_table.specs.Table.{step}
use Rattle.qz_turn.proofs.board.Board.draw.Goals as goal

pub fetch_add-requires : goal.fetch_add-requires
fetch_add-requires g c = let sized = c.args.self.now.sized in let r = c.requires.ready in (search rules, omega arith, keeps_draw _ _ _ _ _ _ _ _ (step 0 0 0 0 none) r.rests (some_stand _ r.numbered))
