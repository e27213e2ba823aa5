use Rattle.std.proofs.Common.{◌≡◌}
use Rattle.std.specs.Prelude.{filter_map}
use Rattle.qz_terms.specs.Lists.{places_to}
use Rattle.qz_catalog.specs.Readings.{group_override}
use Rattle.qz_catalog.proofs.settings.group_overrides.Given as goal

abbrev pub invariant-loop-before : goal.invariant-loop-before
invariant-loop-before l = l.found.items ≡ filter_map (group_override l.book.records.items l.quiz l.user) (places_to l.before)
