use Rattle.std.proofs.Common.{◌≡◌}
use Rattle.qz_links_tests.proofs.turns.put_all.Given as goal

abbrev pub invariant-loop-turn : goal.invariant-loop-turn
invariant-loop-turn g l = (l.pass.lock ≡ l.fn.pass.lock) × (l.pass.numbers ≡ l.fn.pass.numbers)
