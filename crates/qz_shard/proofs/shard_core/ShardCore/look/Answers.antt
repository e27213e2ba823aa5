use Rattle.std.proofs.Common.{ap}
use Rattle.qz_shard.specs.Holdings.{Holding}
use Rattle.qz_shard.proofs.Alone.{answered_alone, wanting_alone}
use Rattle.qz_shard.proofs.shard_core.ShardCore.look.Goals.{in-Ok, in-Err}
use Rattle.qz_shard.proofs.shard_core.ShardCore.look.Goals as goal

pub returns-clause-alone : goal.returns-clause-alone
returns-clause-alone g c = elim c.match-seen.branch [
  | in-Ok w ↦ answered_alone c.args.self.now c.self.inside.book c.args.moment c.args.user.now c.args.plan.now c.args.ask.now w.in-Ok.reply c.match-seen.result _
      (ap (λ (s : Holding). s.records) c.self.view_is) w.in-Ok.ensures w.result-is
  | in-Err w ↦ wanting_alone c.args.self.now c.args.moment c.args.user.now c.args.plan.now c.args.ask.now c.match-seen.result w.result-is
]
