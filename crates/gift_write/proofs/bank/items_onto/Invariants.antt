use Rattle.std.proofs.Common.{◌≡◌, ◌++◌, string_bytes, drop}
use Rattle.qz_grading.specs.Canonical.{canonical_items}
use Rattle.gift_write.proofs.bank.items_onto.Given as goal

abbrev pub invariant-loop-item : goal.invariant-loop-item
invariant-loop-item l =
    string_bytes l.out ++ canonical_items l.before (drop l.item-index l.items) ≡ string_bytes l.initial.out ++ canonical_items l.initial.before l.items
