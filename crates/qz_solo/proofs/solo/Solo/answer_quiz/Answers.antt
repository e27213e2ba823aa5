use Rattle.std.proofs.Common.{◌≡◌, ◌<◌, ◌%◌, List, length, sym, ap, subst, arith}
use Rattle.std.proofs.lemmas.Result.{err_from_is_err_and}
use Rattle.qz_catalog.specs.Keeping.{IsPlan}
use Rattle.qz_keeper.specs.Lists.{EachMayStand}
use Rattle.qz_serial.specs.Calls.{ShardAnswers}
use Rattle.qz_school.specs.Answering.{PartAnswers}
use Rattle.qz_school.specs.Planning.{ArePlanned, IsPlanned}
use Rattle.qz_shard.specs.Keeping.{shard_over}
use Rattle.qz_terms.specs.declared.record.Record.{Record}
use Rattle.qz_terms.specs.Legal.{AllAgree}
use Rattle.qz_school.proofs.Calls.{stand_as}
use Rattle.qz_school.proofs.Planning.{either_quiz, plans_quiz, quiz_free, quiz_kind}
use Rattle.qz_solo.proofs.Seeing.{known_seen, seen_from, seen_still, shard_other}
use Rattle.qz_solo.proofs.Serving.{either_served, part_served, plan_goes}
use Rattle.qz_solo.proofs.Standing.{changed_part, here_there, part_there}
use Rattle.qz_solo.proofs.solo.Solo.answer_quiz.Goals as goal

pub returns-in_err-plan : goal.returns-in_err-plan
returns-in_err-plan g c =
    let p = err_from_is_err_and c.from_residual.result c.from_residual.ensures.1 in
    let cs = c.self.inside.catalog in
    let ss = c.self.inside.shards.items in
    let user = c.args.user.now in
    let ask = c.args.ask.now in
    let known = known_seen c.args.self.now (record { catalog = cs; parts = ss }) ask user c.self.view_is c.requires.known in
    let kind = quiz_kind user ask.request c.args.quiz c.args.owner c.args.whole c.requires.names in
    rw (p.1, p.2) (seen_still g.K.Keeper.sound g.K.Keeper.faults c.args.self.now (record { catalog = cs; parts = ss }) c.args.moment ask _ c.self.view_is
    (either_served g.K.Keeper.sound g.K.Keeper.faults cs ss c.args.moment ask user c.in_err-plan.field-0.0 c.self.invariant c.requires.asked known (shard_other ask.request kind.0)
    (either_quiz cs.held.list ask.caller user ask.request c.args.quiz c.args.owner c.args.whole c.in_err-plan.field-0.0 known.found c.requires.may c.requires.names (rw c.core.ensures at c.in_err-plan.ensures.refused))))

pub told_under-requires-clause-planned : goal.told_under-requires-clause-planned
told_under-requires-clause-planned g c =
    let cs = c.self.inside.catalog in
    let ss = c.self.inside.shards.items in
    let user = c.args.user.now in
    let ask = c.args.ask.now in
    let known = known_seen c.args.self.now (record { catalog = cs; parts = ss }) ask user c.self.view_is c.requires.known in
    let k = c.args.owner % c.len.result in
    let s = c.index_mut-shard.result.now in
    let some = c.self.invariant.some in
    let told = c.len.ensures in
    let long : c.len.result ≡ length ss = omega (arith, told) in
    let inside : k < length ss = omega (arith, some, long) in
    let there = part_there ss k s inside c.index_mut-shard.ensures.value in
    let place : c.args.owner % length ss ≡ k = ap (λ n. c.args.owner % n) (sym long) in
    let own : IsPlan c.core.result.now c.args.quiz c.args.owner c.args.whole c.in_ok-plan.plan = record { plan_is = c.in_ok-plan.ensures.plan; kept = c.in_ok-plan.ensures.kept; each = c.in_ok-plan.ensures.each; there = c.in_ok-plan.ensures.free } in
    let given : IsPlan cs.held.list c.args.quiz c.args.owner c.args.whole c.in_ok-plan.plan = rw c.core.ensures at own in
    let here = here_there cs ss k c.args.owner s c.self.invariant there place in
    subst (λ (l : List Record). ArePlanned l s user ask.request c.in_ok-plan.plan) (sym c.core-catalog.ensures)
    (stand_as (λ h. IsPlanned cs.held.list (shard_over s h) user ask.request c.in_ok-plan.plan) (AllAgree cs.held.list) s.held
    (λ h agree. plans_quiz cs.held.list (shard_over s h) ask.caller user ask.request c.args.quiz c.args.owner c.args.whole c.in_ok-plan.plan known.found c.requires.may c.requires.names here agree given)
    (c.self.invariant.agree.each k s there))

pub told_under-requires-clause-agree : goal.told_under-requires-clause-agree
told_under-requires-clause-agree g c =
    let ss = c.self.inside.shards.items in
    let k = c.args.owner % c.len.result in
    let s = c.index_mut-shard.result.now in
    let some = c.self.invariant.some in
    let told = c.len.ensures in
    let long : c.len.result ≡ length ss = omega (arith, told) in
    let inside : k < length ss = omega (arith, some, long) in
    subst (λ (l : List Record). EachMayStand (AllAgree l) s.held) (sym c.core-catalog.ensures) (c.self.invariant.agree.each k s (part_there ss k s inside c.index_mut-shard.ensures.value))

pub invariant_of-self : goal.invariant_of-self
invariant_of-self g c =
    let ss = c.self.inside.shards.items in
    let k = c.args.owner % c.len.result in
    let s = c.index_mut-shard.result.now in
    let some = c.self.invariant.some in
    let told = c.len.ensures in
    let long : c.len.result ≡ length ss = omega (arith, told) in
    let inside : k < length ss = omega (arith, some, long) in
    changed_part c.self.inside.catalog ss k s c.told_under.new.shard c.self.invariant (part_there ss k s inside c.index_mut-shard.ensures.value) c.told_under.ensures.answers.same
    (subst (λ (l : List Record). EachMayStand (AllAgree l) c.told_under.new.shard.held) c.core-catalog.ensures c.told_under.ensures.agree)

pub returns : goal.returns
returns g c =
    let cs = c.self.inside.catalog in
    let ss = c.self.inside.shards.items in
    let user = c.args.user.now in
    let ask = c.args.ask.now in
    let known = known_seen c.args.self.now (record { catalog = cs; parts = ss }) ask user c.self.view_is c.requires.known in
    let kind = quiz_kind user ask.request c.args.quiz c.args.owner c.args.whole c.requires.names in
    let k = c.args.owner % c.len.result in
    let s = c.index_mut-shard.result.now in
    let new = c.told_under.new.shard in
    let some = c.self.invariant.some in
    let told = c.len.ensures in
    let long : c.len.result ≡ length ss = omega (arith, told) in
    let inside : k < length ss = omega (arith, some, long) in
    let there = part_there ss k s inside c.index_mut-shard.ensures.value in
    let place : c.args.owner % length ss ≡ k = ap (λ n. c.args.owner % n) (sym long) in
    let free = quiz_free cs.held.list ask.caller user ask.request c.args.quiz c.args.owner c.args.whole known.found c.requires.may c.requires.names (rw c.core.ensures at c.in_ok-plan.ensures.free) in
    seen_from g.K.Keeper.sound g.K.Keeper.faults c.args.self.now (record { catalog = cs; parts = ss }) _ c.args.moment ask c.told_under.result c.self.view_is
    (part_served g.K.Keeper.sound g.K.Keeper.faults cs ss k s new c.args.moment ask user c.told_under.result c.self.invariant there c.requires.asked known (plan_goes cs.held.list (length ss) ask user c.args.owner k kind.0 free kind.1 place)
    (subst (λ (l : List Record). PartAnswers g.K.Keeper.sound g.K.Keeper.faults (ShardAnswers l c.args.moment user ask) s new c.told_under.result) c.core-catalog.ensures c.told_under.ensures.answers))
