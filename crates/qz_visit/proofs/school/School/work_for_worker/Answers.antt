use Rattle.std.proofs.Common.{◌<◌, ℕ, length, sym, ap, ◌∙◌, subst, arith}
use Rattle.qz_terms.specs.declared.request.Request.TheVariants as request
use Rattle.qz_visit.proofs.Standing.{some_part, there_at, tied_at, work_visits}
use Rattle.qz_visit.proofs.school.School.work_for_worker.Goals as goal

pub answer_work-told-requires-clause-tied : goal.answer_work-told-requires-clause-tied
answer_work-told-requires-clause-tied g c =
    let ls = c.self.inside.parts.items in
    let ps = c.passes.inside.parts.items in
    let k = c.from-index.result in
    let own = rw (← c.passes.view_is, ← c.self.view_is) at c.requires.own in
    let long = c.len.ensures in
    let below = c.if-index-len.false in
    let inside : k < length ls = omega (arith, long, below) in
    tied_at c.self.inside.records ls c.passes.inside.records ps k c.index.result.now c.index_mut.result.now c.self.invariant.0 own (there_at ls k c.index.result.now inside c.index.ensures) (there_at ps k c.index_mut.result.now (subst (λ (n : ℕ). k < n) (sym own.count) inside) c.index_mut.ensures.value)

pub by_shard-requires : goal.by_shard-requires
by_shard-requires g c =
    let long = c.len.ensures in
    let below = c.if-index-len.false in
    let few = c.self.invariant.0.few in
    omega (arith, long, below, few)

pub returns : goal.returns
returns g c =
    let ls = c.self.inside.parts.items in
    let ps = c.passes.inside.parts.items in
    let k = c.from-index.result in
    let own = rw (← c.passes.view_is, ← c.self.view_is) at c.requires.own in
    let long = c.len.ensures in
    let below = c.if-index-len.false in
    let inside : k < length ls = omega (arith, long, below) in
    rw (c.by_shard.ensures, ← c.passes.view_is) (work_visits c.passes.inside.records c.answer_work-told.new.seen ps k c.index_mut.result.now c.answer_work-told.new.pass c.args.moment c.args.ask.now c.args.user.now c.args.number c.answer_work-told.result c.requires.user
    (there_at ps k c.index_mut.result.now (subst (λ (n : ℕ). k < n) (sym own.count) inside) c.index_mut.ensures.value)
    (record {
      some = some_part _ _ c.passes.inside.records ps c.self.invariant.0 own;
      may = c.requires.asked;
      caller_is = c.requires.caller;
      request_is = c.requires.work ∙ ap (λ (n : ℕ). request.Work c.args.number n) (sym c.from-index.ensures);
    }) c.answer_work-told.ensures)
