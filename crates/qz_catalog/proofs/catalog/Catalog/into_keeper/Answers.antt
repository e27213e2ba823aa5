use Rattle.qz_keeper.proofs.Settling.{stored}
use Rattle.qz_catalog.specs.Keeping.{MayFollow}
use Rattle.qz_catalog.proofs.catalog.Catalog.into_keeper.Goals as goal

pub returns-clause-stored : goal.returns-clause-stored
returns-clause-stored g c =
    rw (← c.self.view_is) (rw c.into_keeper.ensures.keeper
    (stored g.K.Keeper.kept MayFollow c.self.inside.core c.self.inside.keeper _ c.self.invariant (rw c.into_keeper.ensures.keeper at c.into_keeper.ensures.doubt)))
