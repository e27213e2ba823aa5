use Rattle.std.proofs.Common.{◌≡◌, ◌≤◌, length, vec_capacity}
use Rattle.quizd.proofs.outside.open_doors.Given as goal

abbrev pub invariant-loop : goal.invariant-loop
invariant-loop l = (length l.doors.items ≡ l.counter) × (l.counter ≤ 15) × (16 ≤ vec_capacity l.doors)
