use Rattle.qz_catalog.specs.Keeping.{MayFollow}
use Rattle.qz_catalog.proofs.KeptCalls.{legal_held}
use Rattle.qz_catalog.proofs.catalog.Catalog.len.Goals as goal
use Rattle.qz_keeper.proofs.Settling.{records_held}

pub returns-clause-legal : goal.returns-clause-legal
returns-clause-legal g c = rw (← c.self.view_is) (legal_held g.K.Keeper.kept c.self.inside.core c.self.inside.keeper c.self.invariant c.len.ensures.legal)

pub returns-clause-records : goal.returns-clause-records
returns-clause-records g c =
    rw (← c.self.view_is)
    (records_held g.K.Keeper.kept MayFollow c.self.inside.core c.self.inside.keeper c.self.invariant c.len.ensures.kept c.len.ensures.described (λ r may. (may.kept, may.described)))
