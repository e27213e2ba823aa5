use Rattle.std.proofs.Common.{◌≡◌}
use Rattle.std.specs.Prelude.{filter}
use Rattle.qz_terms.specs.History.{is_target}
use Rattle.qz_terms.specs.Lists.{first_of, places_to}
use Rattle.qz_book.proofs.targets.first_left.Given as goal

abbrev pub invariant-loop-place : goal.invariant-loop-place
invariant-loop-place l = l.found ≡ first_of (filter (is_target l.book l.job l.position l.attempt) (places_to l.place))
