use Rattle.std.proofs.Common.{◌≡◌, ◌<◌, ◌%◌, ℕ, length, sym, ap, ◌∙◌, subst, arith}
use Rattle.qz_visit.proofs.Standing.{settle_visits, some_part, there_at, tied_at}
use Rattle.qz_visit.proofs.school.School.settle.Goals as goal

pub answer_attempt-told-requires-clause-tied : goal.answer_attempt-told-requires-clause-tied
answer_attempt-told-requires-clause-tied g c =
    let ls = c.self.inside.parts.items in
    let ps = c.passes.inside.parts.items in
    let k = c.args.attempt.user % c.len.result in
    let own = rw (← c.passes.view_is, ← c.self.view_is) at c.requires.own in
    let some = c.self.invariant.0.some in
    let told = c.len.ensures in
    let long : c.len.result ≡ length ls = omega (arith, told) in
    let inside : k < length ls = omega (arith, some, long) in
    tied_at c.self.inside.records ls c.passes.inside.records ps k c.index.result.now c.index_mut.result.now c.self.invariant.0 own (there_at ls k c.index.result.now inside c.index.ensures) (there_at ps k c.index_mut.result.now (subst (λ (n : ℕ). k < n) (sym own.count) inside) c.index_mut.ensures.value)

pub by_shard-requires : goal.by_shard-requires
by_shard-requires g c =
    let some = c.self.invariant.0.some in
    let few = c.self.invariant.0.few in
    let told = c.len.ensures in
    let long : c.len.result ≡ length c.self.inside.parts.items = omega (arith, told) in
    omega (arith, some, few, long)

pub returns : goal.returns
returns g c =
    let ls = c.self.inside.parts.items in
    let ps = c.passes.inside.parts.items in
    let k = c.args.attempt.user % c.len.result in
    let own = rw (← c.passes.view_is, ← c.self.view_is) at c.requires.own in
    let some = c.self.invariant.0.some in
    let told = c.len.ensures in
    let long : c.len.result ≡ length ls = omega (arith, told) in
    let inside : k < length ls = omega (arith, some, long) in
    rw (c.by_shard.ensures, ← c.passes.view_is) (settle_visits c.passes.inside.records c.answer_attempt-told.new.seen ps k c.index_mut.result.now c.answer_attempt-told.new.pass c.args.moment c.args.ask.now c.args.user.now c.args.attempt c.answer_attempt-told.result c.requires.user
    (record {
      works = record { some = some_part _ _ c.passes.inside.records ps c.self.invariant.0 own; may = c.requires.asked; caller_is = c.requires.caller; request_is = c.requires.settle };
      place = ap (λ (n : ℕ). c.args.attempt.user % n) (own.count ∙ sym long);
      there = there_at ps k c.index_mut.result.now (subst (λ (n : ℕ). k < n) (sym own.count) inside) c.index_mut.ensures.value;
    }) c.answer_attempt-told.ensures)
