use Rattle.std.proofs.Common.{◌≤◌, take}
use Rattle.qz_gradebook.specs.Grades.{IsAdded}
use Rattle.qz_gradebook.proofs.methods.graded_average.Given as goal

abbrev pub invariant-loop-attempt : goal.invariant-loop-attempt
invariant-loop-attempt l = record { added : IsAdded (take l.attempt-index l.attempts) l.sum l.count; few : l.count ≤ l.attempt-index }
