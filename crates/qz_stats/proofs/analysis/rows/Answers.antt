use Rattle.std.proofs.Common.{◌+◌, ap, ◌∙◌}
use Rattle.qz_stats.specs.Rows.{row_of}
use Rattle.qz_stats.specs.Shards.{slots_in}
use Rattle.qz_stats.proofs.Rowing.{row-more}
use Rattle.qz_stats.proofs.analysis.rows.Goals as goal

pub loop-place-preserved : goal.loop-place-preserved
loop-place-preserved c =
    let row = c.in_ok-row.ensures ∙ ap (row_of (c.loop-place.place + 1)) (ap slots_in c.deref.ensures.value ∙ c.in_ok-slots.ensures.slots) in
    c.in_ok-push.ensures.items ∙ row-more c.args.shards.now c.loop-place.place c.loop-place.items.items c.in_ok-row.field-0 c.loop-place.invariant row
