use Rattle.std.proofs.Common.{Err, refl}
use Rattle.qz_keeper.specs.Lists.{Looks}
use Rattle.qz_keeper.proofs.Calls.{looked_call}
use Rattle.qz_catalog.specs.Keeping.{TellsPlan}
use Rattle.qz_catalog.proofs.KeptCalls.{plan_told, settled_by}
use Rattle.qz_catalog.proofs.catalog.Catalog.plan.Goals as goal

pub returns-clause-told : goal.returns-clause-told
returns-clause-told g c =
    looked_call _ (g.K.Keeper.sound c.args.self.now.keeper) _ (g.K.Keeper.faults c.args.self.now.keeper) _ (λ r. Err r) (Looks (TellsPlan c.args.quiz c.args.user c.args.whole)) c.args.self.now.held c.mend.new.self.held c.mend.new.self.held c.plan.result (settled_by _ c.args.self.now.held c.mend.new.self.held c.in_ok-mend.ensures.mended) refl
    (rw (← c.self.view_is) (plan_told c.self.inside.core c.args.quiz c.args.user c.args.whole c.plan.result c.plan.ensures.plan c.plan.ensures.kept c.plan.ensures.each c.plan.ensures.free c.plan.ensures.refused))
