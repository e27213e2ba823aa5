use Rattle.std.proofs.Common.{length}
use Rattle.qz_links_tests.proofs.Gathering.{Gathers}
use Rattle.qz_links_tests.proofs.turns.close_all.Given as goal

abbrev pub invariant-loop-other : goal.invariant-loop-other
invariant-loop-other l = Gathers l.turns.lock l.turns.seats l.pass l.passes.items

abbrev pub decreases-loop-other : goal.decreases-loop-other
decreases-loop-other l = length l.passes.items
