use Rattle.qz_solo.proofs.UnderPlans.{told_answers}
use Rattle.qz_solo.proofs.telling.answered.Goals as goal

pub returns : goal.returns
returns g c =
    told_answers g.K.Keeper.sound g.K.Keeper.faults c.args.shard.now.index c.args.shard.now.count c.args.moment c.args.user.now c.args.plan.now c.args.ask.now c.args.shard.now c.apply.new.self c.in-Ok.reply c.in-Ok.ensures.answer c.in-Ok.ensures.shard c.in-Ok.ensures.goes_on
