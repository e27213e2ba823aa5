use Rattle.std.proofs.Common.{◌≡◌, map, take}
use Rattle.qz_catalog.specs.Readings.{planned_by}
use Rattle.qz_catalog.proofs.planning.slots.Given as goal

abbrev pub invariant-loop-slot : goal.invariant-loop-slot
invariant-loop-slot l = l.items.items ≡ map (planned_by l.book.records.items) (take l.slot-index l.made)
