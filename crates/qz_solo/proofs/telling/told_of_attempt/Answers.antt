use Rattle.std.proofs.Common.{◌≡◌}
use Rattle.std.proofs.lemmas.Result.{err_from_is_err_and}
use Rattle.qz_grading.specs.declared.refusal.Refusal.TheVariants as refusal
use Rattle.qz_serial.specs.Calls.{ShardAnswers}
use Rattle.qz_solo.proofs.UnderPlans.{part_after, part_wants, plan_wanting, quiz_agree, quiz_found, quiz_missing, quiz_planned}
use Rattle.qz_solo.proofs.telling.told_of_attempt.Goals as goal

pub returns-in_err-quiz-clause-answers : goal.returns-in_err-quiz-clause-answers
returns-in_err-quiz-clause-answers g c =
    let p = err_from_is_err_and c.from_residual.result c.from_residual.ensures.1 in
    rw (p.1, p.2) (quiz_missing g.K.Keeper.sound g.K.Keeper.faults c.args.catalog.now c.args.moment c.args.user.now c.args.ask.now c.args.attempt c.args.shard.now c.quiz_of.new.self c.in_err-quiz.field-0.0 c.requires.may c.requires.named
    (record { call = c.in_err-quiz.ensures.told; same = c.in_err-quiz.ensures.shard; goes_on = c.in_err-quiz.ensures.goes_on }))

pub returns-in_err-quiz-clause-agree : goal.returns-in_err-quiz-clause-agree
returns-in_err-quiz-clause-agree g c =
    quiz_agree g.K.Keeper.sound g.K.Keeper.faults c.args.catalog.now c.args.attempt c.args.shard.now c.quiz_of.new.self c.quiz_of.result c.requires.agree (record { call = c.quiz_of.ensures.told; same = c.quiz_of.ensures.shard; goes_on = c.quiz_of.ensures.goes_on })

pub returns-in_err-plan-clause-answers : goal.returns-in_err-plan-clause-answers
returns-in_err-plan-clause-answers g c =
    let p = err_from_is_err_and c.from_residual-in_err-plan.result c.from_residual-in_err-plan.ensures.1 in
    let found = quiz_found g.K.Keeper.sound g.K.Keeper.faults c.args.attempt c.args.shard.now c.quiz_of.new.self c.in_ok-quiz.quiz (record { call = c.in_ok-quiz.ensures.told; same = c.in_ok-quiz.ensures.shard; goes_on = c.in_ok-quiz.ensures.goes_on }) in
    let agree = quiz_agree g.K.Keeper.sound g.K.Keeper.faults c.args.catalog.now c.args.attempt c.args.shard.now c.quiz_of.new.self c.quiz_of.result c.requires.agree (record { call = c.quiz_of.ensures.told; same = c.quiz_of.ensures.shard; goes_on = c.quiz_of.ensures.goes_on }) in
    let memory : c.in_err-plan.field-0.0 ≡ refusal.Memory = plan_wanting c.args.catalog.now c.quiz_of.new.self.held.list c.args.attempt c.in_ok-quiz.quiz c.in_err-plan.field-0.0 agree.without found.of_quiz c.in_err-plan.ensures.refused in
    rw (p.1, p.2, memory) (part_wants g.K.Keeper.sound g.K.Keeper.faults (ShardAnswers c.args.catalog.now c.args.moment c.args.user.now c.args.ask.now) c.args.shard.now c.quiz_of.new.self found.settled c.quiz_of.ensures.shard c.quiz_of.ensures.goes_on)

pub returns-in_err-plan-clause-agree : goal.returns-in_err-plan-clause-agree
returns-in_err-plan-clause-agree g c =
    quiz_agree g.K.Keeper.sound g.K.Keeper.faults c.args.catalog.now c.args.attempt c.args.shard.now c.quiz_of.new.self c.quiz_of.result c.requires.agree (record { call = c.quiz_of.ensures.told; same = c.quiz_of.ensures.shard; goes_on = c.quiz_of.ensures.goes_on })

pub told_under-requires-clause-planned : goal.told_under-requires-clause-planned
told_under-requires-clause-planned g c =
    let found = quiz_found g.K.Keeper.sound g.K.Keeper.faults c.args.attempt c.args.shard.now c.quiz_of.new.self c.in_ok-quiz.quiz (record { call = c.in_ok-quiz.ensures.told; same = c.in_ok-quiz.ensures.shard; goes_on = c.in_ok-quiz.ensures.goes_on }) in
    quiz_planned c.args.catalog.now c.args.user.now c.args.ask.now.request c.args.attempt c.in_ok-quiz.quiz c.args.shard.now c.quiz_of.new.self c.in_ok-plan.plan c.requires.may c.requires.named found
    (record { plan_is = c.in_ok-plan.ensures.plan; kept = c.in_ok-plan.ensures.kept; each = c.in_ok-plan.ensures.each; there = c.in_ok-plan.ensures.free })

pub told_under-requires-clause-agree : goal.told_under-requires-clause-agree
told_under-requires-clause-agree g c =
    quiz_agree g.K.Keeper.sound g.K.Keeper.faults c.args.catalog.now c.args.attempt c.args.shard.now c.quiz_of.new.self c.quiz_of.result c.requires.agree (record { call = c.quiz_of.ensures.told; same = c.quiz_of.ensures.shard; goes_on = c.quiz_of.ensures.goes_on })

pub returns-clause-answers : goal.returns-clause-answers
returns-clause-answers g c =
    let found = quiz_found g.K.Keeper.sound g.K.Keeper.faults c.args.attempt c.args.shard.now c.quiz_of.new.self c.in_ok-quiz.quiz (record { call = c.in_ok-quiz.ensures.told; same = c.in_ok-quiz.ensures.shard; goes_on = c.in_ok-quiz.ensures.goes_on }) in
    part_after g.K.Keeper.sound g.K.Keeper.faults (ShardAnswers c.args.catalog.now c.args.moment c.args.user.now c.args.ask.now) c.args.shard.now c.quiz_of.new.self c.told_under.new.shard c.told_under.result found.settled c.quiz_of.ensures.shard c.quiz_of.ensures.goes_on c.told_under.ensures.answers
