use Rattle.std.proofs.Common.{◌≡◌, map, take}
use Rattle.qz_looks.specs.Grades.{graded}
use Rattle.qz_looks.proofs.grades.grades_of.Given as goal

abbrev pub invariant-loop-user : goal.invariant-loop-user
invariant-loop-user l = l.items.items ≡ map (graded l.book l.quiz l.policy) (take l.user-index l.users)
