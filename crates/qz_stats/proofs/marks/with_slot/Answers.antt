use Rattle.std.proofs.Common.{◌+ℤ◌, sym, ap, ◌∙◌}
use Rattle.qz_terms.specs.declared.plan.Bound.{Bound}
use Rattle.qz_stats.specs.Shards.{slot_in}
use Rattle.qz_stats.proofs.Totals.{slot-more, sums-same}
use Rattle.qz_stats.proofs.marks.with_slot.Goals as goal

pub returns-in-Some : goal.returns-in-Some
returns-in-Some c = λ xs sums.
    slot-more c.args.sums c.with_mark.result xs c.args.slot.now c.in-Some.mark c.requires.slot
    (c.in-Some.ensures.value c.args.slot.now.question.now c.requires.slot.bound)
    c.with_mark.ensures.tried c.with_mark.ensures.marks (c.with_mark.ensures.maxes ∙ ap (λ (b : Bound). c.args.sums.maxes +ℤ b.max) c.bound.ensures.value) sums

pub returns-in-None : goal.returns-in-None
returns-in-None c = λ xs sums.
    sums-same c.args.sums xs (slot_in c.args.slot.now) (sym (c.in-None.ensures.value c.args.slot.now.question.now c.requires.slot.bound)) sums
