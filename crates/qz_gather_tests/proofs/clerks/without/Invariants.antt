use Rattle.qz_gather.specs.Notes.{AreTrueOf}
use Rattle.qz_visit.specs.Visits.{Tellings}
use Rattle.qz_gather_tests.proofs.clerks.without.Given as goal

abbrev pub invariant-loop : goal.invariant-loop
invariant-loop l = (t : Tellings) → AreTrueOf t l.initial.left.items → AreTrueOf t l.left.items
