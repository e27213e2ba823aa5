use Rattle.std.proofs.Common.{subst, sym}
use Rattle.qz_keeper.proofs.Settling.{stored}
use Rattle.qz_book.specs.Nexts.{IsNext}
use Rattle.qz_shard.proofs.shard.Shard.into_keeper.Goals as goal

pub returns-clause-stored : goal.returns-clause-stored
returns-clause-stored g c =
    rw (← c.self.view_is) (rw c.into_keeper.ensures.keeper
    (stored g.K.Keeper.kept (IsNext c.self.inside.core.index c.self.inside.core.count) c.self.inside.core.records c.self.inside.keeper _ c.self.invariant (rw c.into_keeper.ensures.keeper at c.into_keeper.ensures.doubt)))
