use Rattle.std.proofs.Common.{◌≡◌, ◌<◌, ◌%◌, List, length, sym, ap, subst, arith}
use Rattle.std.specs.Prelude.{slice_set}
use Rattle.qz_keeper.specs.Lists.{EachMayStand}
use Rattle.qz_serial.specs.Calls.{ShardAnswers}
use Rattle.qz_shard.specs.Keeping.{shard_over}
use Rattle.qz_school.specs.Answering.{PartTells}
use Rattle.qz_terms.specs.declared.record.Record.{Record}
use Rattle.qz_terms.specs.Legal.{AllAgree}
use Rattle.qz_school.proofs.Planning.{named_free, named_kind}
use Rattle.qz_solo.proofs.Seeing.{known_seen, serves_from}
use Rattle.qz_solo.proofs.Serving.{part_serves, plan_goes, same_told}
use Rattle.qz_solo.proofs.Standing.{changed_part, part_there}
use Rattle.qz_solo.proofs.solo.Solo.answer_attempt.Goals as goal

pub told_of_attempt-requires-clause-agree : goal.told_of_attempt-requires-clause-agree
told_of_attempt-requires-clause-agree g c =
    let ss = c.self.inside.shards.items in
    let k = c.args.attempt.user % c.len.result in
    let s = c.index_mut-shard.result.now in
    let some = c.self.invariant.some in
    let told = c.len.ensures in
    let long : c.len.result ≡ length ss = omega (arith, told) in
    let inside : k < length ss = omega (arith, some, long) in
    subst (λ (l : List Record). EachMayStand (AllAgree l) s.held) (sym c.core.ensures) (c.self.invariant.agree.each k s (part_there ss k s inside c.index_mut-shard.ensures.value))

pub invariant_of-self : goal.invariant_of-self
invariant_of-self g c =
    let ss = c.self.inside.shards.items in
    let k = c.args.attempt.user % c.len.result in
    let s = c.index_mut-shard.result.now in
    let some = c.self.invariant.some in
    let told = c.len.ensures in
    let long : c.len.result ≡ length ss = omega (arith, told) in
    let inside : k < length ss = omega (arith, some, long) in
    changed_part c.self.inside.catalog ss k s c.told_of_attempt.new.shard c.self.invariant (part_there ss k s inside c.index_mut-shard.ensures.value)
    (same_told g.K.Keeper.sound g.K.Keeper.faults _ s c.told_of_attempt.new.shard c.told_of_attempt.result c.told_of_attempt.ensures.answers)
    (subst (λ (l : List Record). EachMayStand (AllAgree l) c.told_of_attempt.new.shard.held) c.core.ensures c.told_of_attempt.ensures.agree)

pub returns : goal.returns
returns g c =
    let cs = c.self.inside.catalog in
    let ss = c.self.inside.shards.items in
    let user = c.args.user.now in
    let ask = c.args.ask.now in
    let known = known_seen c.args.self.now (record { catalog = cs; parts = ss }) ask user c.self.view_is c.requires.known in
    let kind = named_kind user ask.request c.args.attempt c.requires.named in
    let k = c.args.attempt.user % c.len.result in
    let s = c.index_mut-shard.result.now in
    let new = c.told_of_attempt.new.shard in
    let some = c.self.invariant.some in
    let told = c.len.ensures in
    let long : c.len.result ≡ length ss = omega (arith, told) in
    let inside : k < length ss = omega (arith, some, long) in
    let there = part_there ss k s inside c.index_mut-shard.ensures.value in
    let place : c.args.attempt.user % length ss ≡ k = ap (λ n. c.args.attempt.user % n) (sym long) in
    let free = named_free cs.held.list (shard_over s s.held.list) user ask.request c.args.attempt c.requires.may c.requires.named in
    serves_from g.K.Keeper.sound g.K.Keeper.faults c.args.self.now (record { catalog = cs; parts = ss }) (record { catalog = cs; parts = slice_set ss k new }) c.args.moment ask c.told_of_attempt.result c.self.view_is
    (part_serves g.K.Keeper.sound g.K.Keeper.faults cs ss k s new c.args.moment ask user c.told_of_attempt.result c.self.invariant there c.requires.asked known (plan_goes cs.held.list (length ss) ask user c.args.attempt.user k kind.0 free kind.1 place)
    (subst (λ (l : List Record). PartTells g.K.Keeper.sound g.K.Keeper.faults (ShardAnswers l c.args.moment user ask) s new c.told_of_attempt.result) c.core.ensures c.told_of_attempt.ensures.answers))
