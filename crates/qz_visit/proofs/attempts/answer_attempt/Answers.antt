use Rattle.std.proofs.lemmas.Result.{err_from_is_err_and}
use Rattle.qz_terms.specs.Legal.{IsLegal}
use Rattle.qz_visit.proofs.Asking.{user_on}
use Rattle.qz_visit.proofs.Passing.{turn_sees}
use Rattle.qz_visit.proofs.Planning.{may_attempt}
use Rattle.qz_visit.proofs.Turning.{quiz_told, tied_on, tried_none, tried_told}
use Rattle.qz_visit.proofs.attempts.answer_attempt.Goals as goal

pub returns-in_err-quiz : goal.returns-in_err-quiz
returns-in_err-quiz g c =
    let p = err_from_is_err_and c.from_residual.result c.from_residual.ensures.1 in
    let place = c.requires.tied.tie.place in
    rw (p.1, p.2) (tried_none (IsLegal place.index place.count) c.args.seen.now c.quiz_of.new.seen c.args.pass.now c.quiz_of.new.pass c.args.moment c.args.ask.now c.args.user.now c.args.attempt c.in_err-quiz.field-0.0
    c.in_err-quiz.ensures.unseen (c.in_err-quiz.ensures.turn.at place c.requires.tied.tie.keyed))

pub answer_planned-requires-clause-tied : goal.answer_planned-requires-clause-tied
answer_planned-requires-clause-tied g c =
    let place = c.requires.tied.tie.place in
    tied_on c.args.records.now.lock c.args.parts.now.lock c.args.seen.now c.quiz_of.new.seen c.args.pass.now c.quiz_of.new.pass c.requires.tied c.quiz_of.ensures.seen.sees (turn_sees (IsLegal place.index place.count) _ _ c.args.pass.now c.quiz_of.new.pass c.quiz_of.result (c.quiz_of.ensures.turn.at place c.requires.tied.tie.keyed))

pub answer_planned-requires-clause-may : goal.answer_planned-requires-clause-may
answer_planned-requires-clause-may g c =
    let own = c.requires.tied.tie in
    let found = user_on c.args.seen.now.seen.list c.quiz_of.new.seen.seen.list c.args.ask.now.caller c.args.user.now c.quiz_of.ensures.seen.sees.begins.begins c.requires.known in
    let of_quiz = quiz_told (IsLegal own.place.index own.place.count) c.args.pass.now c.quiz_of.new.pass c.args.attempt c.in_ok-quiz.quiz (c.in_ok-quiz.ensures.turn.at own.place own.keyed) in
    record {
      at = λ place keyed.
          may_attempt c.quiz_of.new.seen.seen.list c.quiz_of.new.pass.seen.list place.index place.count c.args.user.now c.args.attempt c.in_ok-quiz.quiz c.args.ask.now c.args.moment found c.requires.asked c.requires.may c.requires.named of_quiz c.in_ok-quiz.ensures.agree;
    }

pub returns : goal.returns
returns g c =
    let place = c.requires.tied.tie.place in
    tried_told (IsLegal place.index place.count) c.args.seen.now c.quiz_of.new.seen c.answer_planned.new.seen c.args.pass.now c.quiz_of.new.pass c.answer_planned.new.pass c.args.moment c.args.ask.now c.args.user.now c.args.attempt c.in_ok-quiz.quiz c.answer_planned.result
    c.quiz_of.ensures.seen (c.in_ok-quiz.ensures.turn.at place c.requires.tied.tie.keyed) c.in_ok-quiz.ensures.agree c.answer_planned.ensures
