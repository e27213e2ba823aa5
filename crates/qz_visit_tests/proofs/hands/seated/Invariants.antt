use Rattle.std.proofs.Common.{◌≡◌, length}
use Rattle.qz_visit_tests.proofs.Splitting.{Splitting}
use Rattle.qz_visit_tests.proofs.hands.seated.Given as goal

abbrev pub invariant-loop : goal.invariant-loop
invariant-loop g l = Splitting l.school 8 l.counter l.passes.seats × (length l.hands.items ≡ l.counter)
