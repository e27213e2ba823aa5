use Rattle.qz_solo.proofs.UnderPlans.{answered_means, answers_agree, posed_planned}
use Rattle.qz_solo.proofs.telling.told_under.Goals as goal

pub answered-requires-clause-posed : goal.answered-requires-clause-posed
answered-requires-clause-posed g c = posed_planned c.args.catalog.now c.args.shard.now c.args.user.now c.args.plan.now c.args.ask.now c.args.moment c.requires.asked c.requires.planned

pub returns-clause-answers : goal.returns-clause-answers
returns-clause-answers g c = answered_means g.K.Keeper.sound g.K.Keeper.faults c.args.catalog.now c.args.moment c.args.user.now c.args.plan.now c.args.ask.now c.args.shard.now c.answered.new.shard c.answered.result c.requires.known c.requires.planned c.answered.ensures

pub returns-clause-agree : goal.returns-clause-agree
returns-clause-agree g c =
    answers_agree g.K.Keeper.sound g.K.Keeper.faults c.args.catalog.now c.args.moment c.args.user.now c.args.ask.now c.args.shard.now c.answered.new.shard c.answered.result c.len-records.ensures.legal c.requires.known c.len-length.ensures.legal c.requires.agree
    (answered_means g.K.Keeper.sound g.K.Keeper.faults c.args.catalog.now c.args.moment c.args.user.now c.args.plan.now c.args.ask.now c.args.shard.now c.answered.new.shard c.answered.result c.requires.known c.requires.planned c.answered.ensures)
