use Rattle.std.proofs.Common.{drop}
use Rattle.qz_grading.specs.Canonical.{canonical_items}
use Rattle.qz_outside.specs.Sources.{WritesOn}
use Rattle.gift_write.proofs.bank.write_items.Given as goal

abbrev pub invariant-loop-item : goal.invariant-loop-item
invariant-loop-item g l =
    WritesOn (g.O.Sink.holds l.initial.sink) (g.O.Sink.holds l.sink) (g.O.Sink.faults l.initial.sink) (g.O.Sink.faults l.sink)
    (canonical_items l.initial.before l.items) (canonical_items l.before (drop l.item-index l.items))
