use Rattle.std.proofs.Common.{List, Bool, ℕ, subst}
use Rattle.qz_shard.specs.Holdings.{Holding}
use Rattle.qz_book.specs.Held.{IsHeld}
use Rattle.qz_shard.specs.Loads.{IsTaken}
use Rattle.qz_shard.proofs.LoadLemmas.{read-illegal, read-more, read-none, read-whole}
use Rattle.qz_shard.proofs.shard_core.ShardCore.load.Goals as goal

pub loop-place-init : goal.loop-place-init
loop-place-init c = read-none c.args.index c.args.count c.args.payloads.now c.new-shard.result c.requires c.new-shard.ensures

pub returns-then-not-branch-clause-illegal : goal.returns-then-not-branch-clause-illegal
returns-then-not-branch-clause-illegal c =
    let payload = c.index-payloads-place.result in
    let taken : IsTaken c.loop-place.shard c.take.new.self payload c.in_ok-take.field-0 = subst (λ (p : List ℕ). IsTaken c.loop-place.shard c.take.new.self p c.in_ok-take.field-0) c.as_slice.ensures c.in_ok-take.ensures.taken in
    read-illegal c.args.index c.args.count c.args.payloads.now c.loop-place.place c.loop-place.shard c.take.new.self payload c.loop-place-test.true c.index-payloads-place.is c.loop-place.invariant
    (subst (λ (b : Bool). IsTaken c.loop-place.shard c.take.new.self payload b) c.if-not-branch.true taken)

pub loop-place-preserved : goal.loop-place-preserved
loop-place-preserved c =
    let payload = c.index-payloads-place.result in
    let taken : IsTaken c.loop-place.shard c.take.new.self payload c.in_ok-take.field-0 = subst (λ (p : List ℕ). IsTaken c.loop-place.shard c.take.new.self p c.in_ok-take.field-0) c.as_slice.ensures c.in_ok-take.ensures.taken in
    read-more c.args.index c.args.count c.args.payloads.now c.loop-place.place c.loop-place.shard c.take.new.self payload c.loop-place-test.true c.index-payloads-place.is c.loop-place.invariant
    (subst (λ (b : Bool). IsTaken c.loop-place.shard c.take.new.self payload b) c.if-not-branch.false taken) c.in_ok-take.ensures.shard
    (subst (λ (s : Holding). IsHeld s.index s.count s.records) c.shard.view_is c.shard.invariant.held)

pub returns-clause-loaded : goal.returns-clause-loaded
returns-clause-loaded c = read-whole c.args.index c.args.count c.args.payloads.now c.loop-place.place c.loop-place.shard c.loop-place-test.false c.loop-place.invariant
