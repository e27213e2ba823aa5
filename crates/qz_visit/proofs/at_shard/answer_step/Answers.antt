use Rattle.qz_visit.proofs.Coming.{step_comes}
use Rattle.qz_visit.proofs.at_shard.answer_step.Goals as goal

pub returns : goal.returns
returns g c =
    step_comes c.args.seen.now c.answer_work.new.seen c.args.pass.now c.answer_work.new.pass c.args.moment c.args.ask.now c.args.user.now c.args.job c.args.shard c.answer_work.result c.requires.known c.requires.may c.requires.work c.answer_work.ensures
