use Rattle.std.proofs.Common.{◌≡◌, ◌+◌, length, flat_map}
use Rattle.qz_catalog.proofs.sizes.behind_items.Given as goal

abbrev pub invariant-loop-rest : goal.invariant-loop-rest
invariant-loop-rest g l = l.room + length (flat_map g.I.Spelled.bytes l.rest) ≡ l.left + length (flat_map g.I.Spelled.bytes l.items)

abbrev pub decreases-loop-rest : goal.decreases-loop-rest
decreases-loop-rest g l = length l.rest
