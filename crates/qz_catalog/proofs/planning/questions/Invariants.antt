use Rattle.std.proofs.Common.{◌≡◌, take}
use Rattle.qz_terms.specs.Catalog.{questions}
use Rattle.qz_catalog.proofs.planning.questions.Given as goal

abbrev pub invariant-loop-slot : goal.invariant-loop-slot
invariant-loop-slot l = l.items.items ≡ questions l.records (take l.slot-index l.slots)
