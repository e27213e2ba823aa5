use Rattle.qz_visit.specs.Holding.{GoesOn}
use Rattle.qz_gather_tests.proofs.clerks.ask_all.Given as goal

abbrev pub invariant-loop-line : goal.invariant-loop-line
invariant-loop-line g l = GoesOn l.fn.clerk.visit l.clerk.visit
