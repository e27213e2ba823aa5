use Rattle.std.proofs.Common.{take, sym, subst, arith}
use Rattle.std.proofs.lemmas.List.{length-map, length-take}
use Rattle.qz_stats.specs.Counts.{AreCounts}
use Rattle.qz_stats.specs.Shards.{slot_in, slots_in}
use Rattle.qz_stats.proofs.Lists.{map_kept}
use Rattle.qz_stats.proofs.Tallies.{counts-few, counts-more}
use Rattle.qz_stats.proofs.picks.counts_of.Goals as goal

pub note_slot-requires-clause-few : goal.note_slot-requires-clause-few
note_slot-requires-clause-few c = λ p.
    let few = counts-few c.loop-slot.counts (slots_in (take c.loop-slot.slot-index c.args.slots.now)) p c.loop-slot.invariant in
    let inside = c.loop-slot-test.true in
    let most = c.requires.few in
    let long = length-map (take c.loop-slot.slot-index c.args.slots.now) slot_in in
    let short = length-take c.loop-slot.slot-index c.args.slots.now in
    omega arith

pub loop-slot-preserved : goal.loop-slot-preserved
loop-slot-preserved c =
    let longer = map_kept slot_in c.args.slots.now c.loop-slot.slot-index c.slot-item.result c.loop-slot-test.true c.slot-item.is in
    subst (AreCounts c.note_slot.new.counts) (sym longer) (counts-more c.loop-slot.counts c.note_slot.new.counts (slots_in (take c.loop-slot.slot-index c.args.slots.now)) (slot_in c.slot-item.result) c.loop-slot.invariant c.in_ok-note_slot.ensures)
