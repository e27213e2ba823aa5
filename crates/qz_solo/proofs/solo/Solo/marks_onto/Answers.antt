use Rattle.std.proofs.Common.{◌≡◌, ◌<◌, ◌++◌, ◌%◌, List, OnOk, length, sym, ap, subst, arith}
use Rattle.qz_keeper.specs.Lists.{EachMayStand}
use Rattle.qz_terms.specs.declared.record.Record.{Record}
use Rattle.qz_terms.specs.Legal.{AllAgree}
use Rattle.qz_terms.specs.Serial.{Held}
use Rattle.qz_solo.specs.Marks.{marks_of}
use Rattle.qz_solo.proofs.Clear.{clear_part, own_list, still_lists}
use Rattle.qz_solo.proofs.Standing.{changed_part, part_there}
use Rattle.qz_solo.proofs.solo.Solo.marks_onto.Goals as goal

pub marks_onto-requires-clause-clear : goal.marks_onto-requires-clause-clear
marks_onto-requires-clause-clear g c =
    let ss = c.self.inside.shards.items in
    let k = c.args.attempt.user % c.len.result in
    let s = c.index_mut-shard.result.now in
    let some = c.self.invariant.some in
    let told = c.len.ensures in
    let long : c.len.result ≡ length ss = omega (arith, told) in
    let inside : k < length ss = omega (arith, some, long) in
    clear_part c.args.self.now (record { catalog = c.self.inside.catalog; parts = ss }) k s c.self.view_is c.requires.clear (part_there ss k s inside c.index_mut-shard.ensures.value)

pub marks_onto-requires-clause-agree : goal.marks_onto-requires-clause-agree
marks_onto-requires-clause-agree g c =
    let ss = c.self.inside.shards.items in
    let k = c.args.attempt.user % c.len.result in
    let s = c.index_mut-shard.result.now in
    let some = c.self.invariant.some in
    let told = c.len.ensures in
    let long : c.len.result ≡ length ss = omega (arith, told) in
    let inside : k < length ss = omega (arith, some, long) in
    subst (λ (l : List Record). AllAgree l s.held.list) (sym c.core.ensures) (c.self.invariant.agree.each k s (part_there ss k s inside c.index_mut-shard.ensures.value)).without

pub invariant_of-self : goal.invariant_of-self
invariant_of-self g c =
    let ss = c.self.inside.shards.items in
    let k = c.args.attempt.user % c.len.result in
    let s = c.index_mut-shard.result.now in
    let some = c.self.invariant.some in
    let told = c.len.ensures in
    let long : c.len.result ≡ length ss = omega (arith, told) in
    let inside : k < length ss = omega (arith, some, long) in
    let there = part_there ss k s inside c.index_mut-shard.ensures.value in
    changed_part c.self.inside.catalog ss k s c.marks_onto.new.shard c.self.invariant there c.marks_onto.ensures.shard
    (subst (λ (h : Held). EachMayStand (AllAgree c.self.inside.catalog.held.list) h) (sym c.marks_onto.ensures.held) (c.self.invariant.agree.each k s there))

pub returns-clause-marks : goal.returns-clause-marks
returns-clause-marks g c =
    let ss = c.self.inside.shards.items in
    let k = c.args.attempt.user % c.len.result in
    let s = c.index_mut-shard.result.now in
    let some = c.self.invariant.some in
    let told = c.len.ensures in
    let long : c.len.result ≡ length ss = omega (arith, told) in
    let inside : k < length ss = omega (arith, some, long) in
    let there = part_there ss k s inside c.index_mut-shard.ensures.value in
    let place : c.args.attempt.user % length ss ≡ k = ap (λ n. c.args.attempt.user % n) (sym long) in
    subst (λ (h : List Record). OnOk c.marks_onto.result (c.marks_onto.new.marks ≡ c.args.marks.now ++ marks_of h c.args.attempt))
    (sym (own_list c.args.self.now (record { catalog = c.self.inside.catalog; parts = ss }) c.args.attempt.user k s c.self.view_is there place)) c.marks_onto.ensures.marks

pub returns-clause-unchanged : goal.returns-clause-unchanged
returns-clause-unchanged g c =
    let ss = c.self.inside.shards.items in
    let k = c.args.attempt.user % c.len.result in
    let s = c.index_mut-shard.result.now in
    let some = c.self.invariant.some in
    let told = c.len.ensures in
    let long : c.len.result ≡ length ss = omega (arith, told) in
    let inside : k < length ss = omega (arith, some, long) in
    still_lists c.args.self.now c.self.inside.catalog ss k s c.marks_onto.new.shard c.self.view_is (part_there ss k s inside c.index_mut-shard.ensures.value) c.marks_onto.ensures.held
