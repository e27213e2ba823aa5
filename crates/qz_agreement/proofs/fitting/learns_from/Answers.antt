use Rattle.std.proofs.Common.{Bool, subst, sym}
use Rattle.std.specs.Bool.{Decides}
use Rattle.qz_terms.specs.Legal.{LearnsFrom}
use Rattle.qz_agreement.proofs.Tested.{learned-decide}
use Rattle.qz_agreement.proofs.fitting.learns_from.Goals as goal

pub returns : goal.returns
returns c = subst (λ (b : Bool). Decides b (LearnsFrom c.args.catalog.now c.args.learned.now)) (sym c.are_known.ensures) (learned-decide c.args.catalog.now c.args.learned.now)
