use Rattle.std.proofs.Common.{◌≡◌, ◌≤◌, length, vec_capacity}
use Rattle.quizd.proofs.outside.system_clocks.Given as goal

abbrev pub invariant-loop : goal.invariant-loop
invariant-loop l = (length l.clocks.items ≡ l.counter) × (l.counter ≤ l.count) × (l.count ≤ vec_capacity l.clocks)
