use Rattle.std.proofs.Common.{◌≡◌, ◌<◌, ◌%◌, List, length, sym, ap, subst, arith}
use Rattle.std.specs.Prelude.{slice_set}
use Rattle.std.proofs.lemmas.Result.{err_from_is_err_and}
use Rattle.qz_catalog.specs.Keeping.{TellsPlan}
use Rattle.qz_keeper.specs.Lists.{EachMayStand}
use Rattle.qz_serial.specs.Calls.{ShardAnswers}
use Rattle.qz_school.specs.Answering.{PartAnswers}
use Rattle.qz_school.specs.Planning.{ArePlanned}
use Rattle.qz_terms.specs.declared.people.User.{User}
use Rattle.qz_terms.specs.declared.record.Record.{Record}
use Rattle.qz_terms.specs.Legal.{AllAgree}
use Rattle.qz_school.proofs.Calls.{look_told}
use Rattle.qz_solo.proofs.Seeing.{seen_from}
use Rattle.qz_solo.proofs.Settling.{plan_unsettled, quiz_unsettled, settle_served, settle_may, settle_named}
use Rattle.qz_solo.proofs.Standing.{looked_quiz, looked_records, part_there}
use Rattle.qz_solo.proofs.Standing as standing
use Rattle.qz_solo.proofs.UnderPlans.{quiz_found, quiz_planned}
use Rattle.qz_solo.proofs.solo.Solo.settle.Goals as goal

pub invariant_of-self : goal.invariant_of-self
invariant_of-self g c =
    let ss = c.self.inside.shards.items in
    let k = c.args.attempt.user % c.len.result in
    let s = c.index_mut-shard.result.now in
    let some = c.self.invariant.some in
    let told = c.len.ensures in
    let long : c.len.result ≡ length ss = omega (arith, told) in
    let inside : k < length ss = omega (arith, some, long) in
    looked_quiz g.K.Keeper.sound g.K.Keeper.faults c.self.inside.catalog ss k s c.quiz_of.new.self c.args.attempt c.quiz_of.result c.self.invariant (part_there ss k s inside c.index_mut-shard.ensures.value)
    (record { call = c.quiz_of.ensures.told; same = c.quiz_of.ensures.shard; goes_on = c.quiz_of.ensures.goes_on })

pub returns-in_err-quiz : goal.returns-in_err-quiz
returns-in_err-quiz g c =
    let p = err_from_is_err_and c.from_residual.result c.from_residual.ensures.1 in
    let cs = c.self.inside.catalog in
    let ss = c.self.inside.shards.items in
    let k = c.args.attempt.user % c.len.result in
    let s = c.index_mut-shard.result.now in
    let some = c.self.invariant.some in
    let told = c.len.ensures in
    let long : c.len.result ≡ length ss = omega (arith, told) in
    let inside : k < length ss = omega (arith, some, long) in
    let place : c.args.attempt.user % length ss ≡ k = ap (λ n. c.args.attempt.user % n) (sym long) in
    rw (p.1, p.2) (seen_from g.K.Keeper.sound g.K.Keeper.faults c.args.self.now (record { catalog = cs; parts = ss }) _ c.args.moment c.args.ask.now _ c.self.view_is
    (quiz_unsettled g.K.Keeper.sound g.K.Keeper.faults cs ss c.args.moment c.args.ask.now c.args.attempt k s c.quiz_of.new.self c.in_err-quiz.field-0.0
    (record { solo = c.self.invariant; may = c.requires.asked; caller_is = c.requires.caller; request_is = c.requires.settle; place = place; there = part_there ss k s inside c.index_mut-shard.ensures.value })
    (record { call = c.in_err-quiz.ensures.told; same = c.in_err-quiz.ensures.shard; goes_on = c.in_err-quiz.ensures.goes_on })))

pub invariant_of-self-in_err-plan : goal.invariant_of-self-in_err-plan
invariant_of-self-in_err-plan g c =
    let ss = c.self.inside.shards.items in
    let k = c.args.attempt.user % c.len.result in
    let s = c.index_mut-shard.result.now in
    let some = c.self.invariant.some in
    let told = c.len.ensures in
    let long : c.len.result ≡ length ss = omega (arith, told) in
    let inside : k < length ss = omega (arith, some, long) in
    let mid = looked_quiz g.K.Keeper.sound g.K.Keeper.faults c.self.inside.catalog ss k s c.quiz_of.new.self c.args.attempt c.quiz_of.result c.self.invariant (part_there ss k s inside c.index_mut-shard.ensures.value)
    (record { call = c.quiz_of.ensures.told; same = c.quiz_of.ensures.shard; goes_on = c.quiz_of.ensures.goes_on }) in
    looked_records _ c.self.inside.catalog c.plan.new.self (slice_set ss k c.quiz_of.new.self) _ (TellsPlan c.in_ok-quiz.quiz c.args.attempt.user _) c.plan.result mid c.plan.ensures.told

pub returns-in_err-plan : goal.returns-in_err-plan
returns-in_err-plan g c =
    let p = err_from_is_err_and c.from_residual-in_err-plan.result c.from_residual-in_err-plan.ensures.1 in
    let cs = c.self.inside.catalog in
    let ds = c.plan.new.self in
    let ss = c.self.inside.shards.items in
    let k = c.args.attempt.user % c.len.result in
    let s = c.index_mut-shard.result.now in
    let m = c.quiz_of.new.self in
    let some = c.self.invariant.some in
    let told = c.len.ensures in
    let long : c.len.result ≡ length ss = omega (arith, told) in
    let inside : k < length ss = omega (arith, some, long) in
    let place : c.args.attempt.user % length ss ≡ k = ap (λ n. c.args.attempt.user % n) (sym long) in
    let there = part_there ss k s inside c.index_mut-shard.ensures.value in
    let mid = looked_quiz g.K.Keeper.sound g.K.Keeper.faults cs ss k s m c.args.attempt c.quiz_of.result c.self.invariant there (record { call = c.quiz_of.ensures.told; same = c.quiz_of.ensures.shard; goes_on = c.quiz_of.ensures.goes_on }) in
    let after = looked_records _ cs ds (slice_set ss k m) _ (TellsPlan c.in_ok-quiz.quiz c.args.attempt.user _) c.plan.result mid c.plan.ensures.told in
    let found = quiz_found g.K.Keeper.sound g.K.Keeper.faults c.args.attempt s m c.in_ok-quiz.quiz (record { call = c.in_ok-quiz.ensures.told; same = c.in_ok-quiz.ensures.shard; goes_on = c.in_ok-quiz.ensures.goes_on }) in
    rw (p.1, p.2) (seen_from g.K.Keeper.sound g.K.Keeper.faults c.args.self.now (record { catalog = cs; parts = ss }) _ c.args.moment c.args.ask.now _ c.self.view_is
    (plan_unsettled g.K.Keeper.sound g.K.Keeper.faults cs ds ss c.args.moment c.args.ask.now c.args.attempt c.in_ok-quiz.quiz k s m c.in_err-plan.field-0.0
    (record { solo = c.self.invariant; may = c.requires.asked; caller_is = c.requires.caller; request_is = c.requires.settle; place = place; there = there })
    (record { settled = found.settled; of_quiz = found.of_quiz }) c.quiz_of.ensures.goes_on (after.agree.each k m (standing.set_there ss k s m there)).without (record { call = c.in_err-plan.ensures.told; goes_on = c.in_err-plan.ensures.goes_on })))

pub told_under-requires-clause-planned : goal.told_under-requires-clause-planned
told_under-requires-clause-planned g c =
    let s = c.index_mut-shard.result.now in
    let m = c.quiz_of.new.self in
    let found = quiz_found g.K.Keeper.sound g.K.Keeper.faults c.args.attempt s m c.in_ok-quiz.quiz (record { call = c.in_ok-quiz.ensures.told; same = c.in_ok-quiz.ensures.shard; goes_on = c.in_ok-quiz.ensures.goes_on }) in
    let said = look_told _ (TellsPlan c.in_ok-quiz.quiz c.args.attempt.user _) c.self.inside.catalog.held c.plan.new.self.held c.in_ok-plan.plan c.in_ok-plan.ensures.told in
    subst (λ (l : List Record). ArePlanned l m c.args.user.now c.args.ask.now.request c.in_ok-plan.plan) (sym c.core-catalog.ensures)
    (quiz_planned c.plan.new.self.held.list c.args.user.now c.args.ask.now.request c.args.attempt c.in_ok-quiz.quiz s m c.in_ok-plan.plan (settle_may c.args.user.now c.args.ask.now c.args.attempt c.requires.user c.requires.settle) (settle_named c.args.ask.now c.args.attempt c.requires.settle) found said.1)

pub told_under-requires-clause-agree : goal.told_under-requires-clause-agree
told_under-requires-clause-agree g c =
    let cs = c.self.inside.catalog in
    let ds = c.plan.new.self in
    let ss = c.self.inside.shards.items in
    let k = c.args.attempt.user % c.len.result in
    let s = c.index_mut-shard.result.now in
    let m = c.quiz_of.new.self in
    let some = c.self.invariant.some in
    let told = c.len.ensures in
    let long : c.len.result ≡ length ss = omega (arith, told) in
    let inside : k < length ss = omega (arith, some, long) in
    let there = part_there ss k s inside c.index_mut-shard.ensures.value in
    let mid = looked_quiz g.K.Keeper.sound g.K.Keeper.faults cs ss k s m c.args.attempt c.quiz_of.result c.self.invariant there (record { call = c.quiz_of.ensures.told; same = c.quiz_of.ensures.shard; goes_on = c.quiz_of.ensures.goes_on }) in
    let after = looked_records _ cs ds (slice_set ss k m) _ (TellsPlan c.in_ok-quiz.quiz c.args.attempt.user _) c.plan.result mid c.plan.ensures.told in
    subst (λ (l : List Record). EachMayStand (AllAgree l) m.held) (sym c.core-catalog.ensures) (after.agree.each k m (standing.set_there ss k s m there))

pub invariant_of-self-2 : goal.invariant_of-self-2
invariant_of-self-2 g c =
    let cs = c.self.inside.catalog in
    let ds = c.plan.new.self in
    let ss = c.self.inside.shards.items in
    let k = c.args.attempt.user % c.len.result in
    let s = c.index_mut-shard.result.now in
    let m = c.quiz_of.new.self in
    let some = c.self.invariant.some in
    let told = c.len.ensures in
    let long : c.len.result ≡ length ss = omega (arith, told) in
    let inside : k < length ss = omega (arith, some, long) in
    let there = part_there ss k s inside c.index_mut-shard.ensures.value in
    let after = looked_records _ cs ds ss _ (TellsPlan c.in_ok-quiz.quiz c.args.attempt.user _) c.plan.result c.self.invariant c.plan.ensures.told in
    standing.changed_part ds ss k s c.told_under.new.shard after there (standing.same_through s m c.told_under.new.shard c.quiz_of.ensures.shard c.told_under.ensures.answers.same)
    (subst (λ (l : List Record). EachMayStand (AllAgree l) c.told_under.new.shard.held) c.core-catalog.ensures c.told_under.ensures.agree)

pub returns : goal.returns
returns g c =
    let cs = c.self.inside.catalog in
    let ds = c.plan.new.self in
    let ss = c.self.inside.shards.items in
    let k = c.args.attempt.user % c.len.result in
    let s = c.index_mut-shard.result.now in
    let m = c.quiz_of.new.self in
    let new = c.told_under.new.shard in
    let ask = c.args.ask.now in
    let some = c.self.invariant.some in
    let told = c.len.ensures in
    let long : c.len.result ≡ length ss = omega (arith, told) in
    let inside : k < length ss = omega (arith, some, long) in
    let place : c.args.attempt.user % length ss ≡ k = ap (λ n. c.args.attempt.user % n) (sym long) in
    let there = part_there ss k s inside c.index_mut-shard.ensures.value in
    let found = quiz_found g.K.Keeper.sound g.K.Keeper.faults c.args.attempt s m c.in_ok-quiz.quiz (record { call = c.in_ok-quiz.ensures.told; same = c.in_ok-quiz.ensures.shard; goes_on = c.in_ok-quiz.ensures.goes_on }) in
    let said = look_told _ (TellsPlan c.in_ok-quiz.quiz c.args.attempt.user _) cs.held ds.held c.in_ok-plan.plan c.in_ok-plan.ensures.told in
    let by_list = subst (λ (l : List Record). PartAnswers g.K.Keeper.sound g.K.Keeper.faults (ShardAnswers l c.args.moment c.args.user.now ask) m new c.told_under.result) c.core-catalog.ensures c.told_under.ensures.answers in
    let by_worker = subst (λ (u : User). PartAnswers g.K.Keeper.sound g.K.Keeper.faults (ShardAnswers ds.held.list c.args.moment u ask) m new c.told_under.result) c.requires.user by_list in
    seen_from g.K.Keeper.sound g.K.Keeper.faults c.args.self.now (record { catalog = cs; parts = ss }) _ c.args.moment ask c.told_under.result c.self.view_is
    (settle_served g.K.Keeper.sound g.K.Keeper.faults cs ds ss c.args.moment ask c.args.attempt c.in_ok-quiz.quiz k s m new c.told_under.result
    (record { solo = c.self.invariant; may = c.requires.asked; caller_is = c.requires.caller; request_is = c.requires.settle; place = place; there = there })
    (record { settled = found.settled; of_quiz = found.of_quiz }) c.quiz_of.ensures.goes_on said.0 c.plan.ensures.goes_on by_worker)
