use Rattle.std.proofs.Common.{◌≡◌, map}
use Rattle.std.specs.Prelude.{filter_map}
use Rattle.qz_terms.specs.History.{slot}
use Rattle.qz_terms.specs.Lists.{places_to}
use Rattle.qz_terms.specs.Parts.{part}
use Rattle.qz_looks.proofs.pages.parts.Given as goal

abbrev pub invariant-loop-place : goal.invariant-loop-place
invariant-loop-place l = l.items.items ≡ map (part l.visible) (filter_map (slot l.book l.attempt) (places_to l.place))
