use Rattle.qz_visit.proofs.Coming.{quiz_comes, quiz_here}
use Rattle.qz_visit.proofs.Planning.{may_quiz}
use Rattle.qz_visit.proofs.at_shard.answer_quiz.Goals as goal

pub answer_planned-requires-clause-may : goal.answer_planned-requires-clause-may
answer_planned-requires-clause-may g c =
    let user = c.args.user.now in
    let ask = c.args.ask.now in
    record {
      at = λ place keyed.
          may_quiz c.args.seen.now.seen.list c.args.pass.now.seen.list place.index place.count user c.args.quiz c.args.owner c.args.whole ask c.args.moment c.requires.known.found c.requires.asked c.requires.may c.requires.names
          (quiz_here user ask.request c.args.quiz c.args.owner place.index place.count c.args.whole c.requires.names (c.requires.here.at place keyed));
    }

pub returns : goal.returns
returns g c =
    quiz_comes c.args.seen.now c.answer_planned.new.seen c.args.pass.now c.answer_planned.new.pass c.args.moment c.args.ask.now c.args.user.now c.args.quiz c.args.owner c.args.whole c.answer_planned.result c.requires.known c.requires.may c.requires.names c.answer_planned.ensures
