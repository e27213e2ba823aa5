use Rattle.std.proofs.Common.{ℕ, subst}
use Rattle.qz_disks.specs.Shelves.{RisesBy}
use Rattle.qz_sqlite.proofs.Lists.{counted-both, stored-in}
use Rattle.qz_sqlite.proofs.loading.close.Goals as goal

pub returns-clause-stored : goal.returns-clause-stored
returns-clause-stored g c = stored-in _ _ _ _ _ c.into_keepers-keepers.ensures c.give_back.ensures.catalog c.give_back.ensures.part

pub returns-clause-faults : goal.returns-clause-faults
returns-clause-faults g c = subst (λ (n : ℕ). RisesBy n (g.B.Bases.faults c.args.bases.now) (g.B.Bases.faults c.give_back.new.bases)) (counted-both _ (λ k. k.faults) _ _ c.into_keepers-keepers.ensures) c.give_back.ensures.faults
