use Rattle.std.proofs.Common.{refl}
use Rattle.qz_shard.proofs.Alone.{answered_alone}
use Rattle.qz_shard.proofs.shard_core.ShardCore.apply.Goals as goal

pub returns-in-Ok-clause-alone : goal.returns-in-Ok-clause-alone
returns-in-Ok-clause-alone g c =
    answered_alone c.args.self.now c.args.self.now.records c.args.moment c.args.user.now c.args.plan.now c.args.ask.now c.in-Ok.reply c.in-Ok.reply _ refl c.in-Ok.ensures.answered refl
