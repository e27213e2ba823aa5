use Rattle.qz_visit.proofs.Coming.{attempt_comes}
use Rattle.qz_visit.proofs.at_shard.answer_named.Goals as goal

pub returns : goal.returns
returns g c =
    attempt_comes c.args.seen.now c.answer_attempt.new.seen c.args.pass.now c.answer_attempt.new.pass c.args.moment c.args.ask.now c.args.user.now c.args.attempt c.answer_attempt.result c.requires.known.found c.requires.may c.requires.named c.answer_attempt.ensures
