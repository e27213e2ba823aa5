use Rattle.std.proofs.Common.{rules, arith, ◌∙◌, ap}
use mathlib.Core.Option.{none}
use Rattle.atomic_table.specs.Table.{step}
use Rattle.qz_turn.proofs.Looking.{keeps_look}
use Rattle.qz_turn.proofs.board.Board.wait.Goals as goal

pub load-served-requires : goal.load-served-requires
load-served-requires g c =
    let sized = c.args.self.now.sized in
    let w = c.requires.waits in
    let i = c.loop.invariant in
    (search rules, omega arith, keeps_look _ _ _ _ _ _ _ _ (step 0 0 0 0 none) w.ticket (ap (λ m. m.0.stage) i.1 ∙ w.waits) (ap (λ m. m.1) i.1 ∙ w.bare))
