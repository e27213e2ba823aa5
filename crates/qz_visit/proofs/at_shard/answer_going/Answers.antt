use Rattle.qz_terms.specs.Legal.{IsLegal}
use Rattle.qz_visit.proofs.Coming.{live_came}
use Rattle.qz_visit.proofs.at_shard.answer_going.Goals as goal

pub returns : goal.returns
returns g c =
    let place = c.requires.placed.place in
    live_came (IsLegal place.index place.count) c.args.seen.now c.args.pass.now c.answer_live.new.pass c.args.moment c.args.ask.now c.args.user.now c.args.shard c.args.attempt c.answer_live.result c.requires.live c.requires.may (c.answer_live.ensures.at place c.requires.placed.keyed)
