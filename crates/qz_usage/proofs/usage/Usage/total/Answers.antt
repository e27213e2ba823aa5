use Rattle.std.proofs.Common.{◌≡◌, ◌≤◌, ◌<◌, ◌∙◌, ap, subst, sym, length, refl, arith, List, to_z}
use Rattle.std.specs.Int.{w64}
use Rattle.std.proofs.lemmas.Int.{ints}
use Rattle.qz_usage.specs.Runs.{Run}
use Rattle.qz_usage.specs.Usages.{AreBound}
use Rattle.qz_usage.proofs.UsageLemmas.{awaited, none_more, sum_more, total_all, mark_kept, total_fits, total_kept, total_least, total_greatest}
use Rattle.qz_usage.proofs.usage.Usage.total.Goals as goal

pub loop-slot-init : goal.loop-slot-init
loop-slot-init c = record { none = λ qs h. refl; value = λ qs h. refl; least = omega (arith, ints); greatest = omega (arith, ints) }

pub returns-then-awaits_mark-clause-value : goal.returns-then-awaits_mark-clause-value
returns-then-awaits_mark-clause-value c = λ qs h.
    let rs = c.deref-slot-items.result.now in
    let items : rs ≡ c.args.self.now = c.deref-slot-items.ensures.value ∙ c.self.view_is in
    let all : AreBound rs qs = subst (λ (xs : List Run). AreBound xs qs) (sym items) h in
    let none = awaited rs qs c.loop-slot.slot-index c.slot-item.result all c.loop-slot-test.true c.slot-item.is c.if-awaits_mark.ensures in
    sym (rw items at none)

pub overflow_add-total : goal.overflow_add-total
overflow_add-total c =
    let few : c.loop-slot.slot-index < 200 = omega (arith, c.loop-slot-test.true, ap length c.deref-slot-items.ensures.value, c.self.invariant) in
    let loop = c.loop-slot.invariant in
    let range = c.counted-total.ensures.range in
    rw (mark_kept (to_z w64 c.loop-slot.total-bits) c.counted-total.result c.loop-slot.slot-index few loop.least loop.greatest range)
    (total_fits (to_z w64 c.loop-slot.total-bits) c.counted-total.result c.loop-slot.slot-index few loop.least loop.greatest range)

pub loop-slot-preserved : goal.loop-slot-preserved
loop-slot-preserved c =
    let rs = c.deref-slot-items.result.now in
    let few : c.loop-slot.slot-index < 200 = omega (arith, c.loop-slot-test.true, ap length c.deref-slot-items.ensures.value, c.self.invariant) in
    let loop = c.loop-slot.invariant in
    let range = c.counted-total.ensures.range in
    let total_is = total_kept (to_z w64 c.loop-slot.total-bits) c.counted-total.result c.loop-slot.slot-index few loop.least loop.greatest range in
    record {
      none = λ qs h. none_more rs qs c.loop-slot.slot-index c.slot-item.result h c.loop-slot-test.true c.slot-item.is c.if-awaits_mark.ensures (loop.none qs h);
      value = λ qs h. total_is ∙ sum_more rs qs c.loop-slot.slot-index c.slot-item.result h c.loop-slot-test.true c.slot-item.is (to_z w64 c.loop-slot.total-bits) c.counted-total.result c.counted-total.ensures.value (loop.value qs h);
      least = rw total_is (total_least (to_z w64 c.loop-slot.total-bits) c.counted-total.result c.loop-slot.slot-index few loop.least loop.greatest range);
      greatest = rw total_is (total_greatest (to_z w64 c.loop-slot.total-bits) c.counted-total.result c.loop-slot.slot-index few loop.least loop.greatest range);
    }

pub returns-clause-value : goal.returns-clause-value
returns-clause-value c = λ qs h.
    let rs = c.deref-slot-items.result.now in
    let items : rs ≡ c.args.self.now = c.deref-slot-items.ensures.value ∙ c.self.view_is in
    let all : AreBound rs qs = subst (λ (xs : List Run). AreBound xs qs) (sym items) h in
    let whole = total_all rs qs c.loop-slot.slot-index (to_z w64 c.loop-slot.total-bits) all c.loop-slot-test.false (c.loop-slot.invariant.none qs all) (c.loop-slot.invariant.value qs all) in
    rw items at whole

pub returns-clause-range : goal.returns-clause-range
returns-clause-range c =
    let few : c.loop-slot.slot-index ≤ 200 = omega (arith, c.loop-slot.auto.slot-index-end, ap length c.deref-slot-items.ensures.value, c.self.invariant) in
    (omega (arith, ints, few, c.loop-slot.invariant.least), omega (arith, ints, few, c.loop-slot.invariant.greatest))
