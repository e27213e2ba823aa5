use Rattle.std.proofs.Common.{sym}
use Rattle.qz_shard.proofs.KeptCalls.{legal_held, records_there}
use Rattle.qz_shard.proofs.shard.Shard.len.Goals as goal

pub returns-clause-legal : goal.returns-clause-legal
returns-clause-legal g c =
    rw (← c.self.view_is) (legal_held g.K.Keeper.kept c.self.inside.core.index c.self.inside.core.count c.self.inside.core.records c.self.inside.keeper c.self.invariant c.len.ensures.legal)

pub returns-clause-records : goal.returns-clause-records
returns-clause-records g c =
    rw (← c.self.view_is) (records_there g.K.Keeper.kept c.self.inside.core.index c.self.inside.core.count c.self.inside.core.records c.self.inside.keeper c.self.invariant c.len.ensures.held)
