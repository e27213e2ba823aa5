use Rattle.std.proofs.Common.{◌≡◌, take, None}
use Rattle.std.specs.Prelude.{find}
use Rattle.qz_grading.specs.declared.question.Num.{Num}
use Rattle.qz_grading.specs.Grading.{takes_number}
use Rattle.qz_grading.proofs.weights.first_taking.Given as goal

abbrev pub invariant-loop-answer : goal.invariant-loop-answer
invariant-loop-answer l = find (λ (a : Num). takes_number a.extent l.number) (take l.answer-index l.answers) ≡ None
