use Rattle.std.proofs.Common.{◌≡◌}
use Rattle.bench_turns.proofs.watch.Given as goal

abbrev pub invariant-loop : goal.invariant-loop
invariant-loop g l = (l.pass.lock ≡ l.fn.pass.lock) × (l.pass.numbers ≡ l.fn.pass.numbers)
