use Rattle.std.proofs.Common.{◌≡◌, true, false, sym}
use Rattle.qz_grading.specs.declared.question.Num.{Num}
use Rattle.qz_grading.specs.Grading.{takes_number}
use Rattle.qz_grading.proofs.WeightLemmas.{find_more, find_here}
use Rattle.qz_grading.proofs.weights.first_taking.Goals as goal

pub returns-then-takes_number-clause-first : goal.returns-then-takes_number-clause-first
returns-then-takes_number-clause-first c =
    let passes : takes_number c.answer-item.result.extent c.args.number ≡ true = cc in
    sym (find_here (λ (a : Num). takes_number a.extent c.args.number) c.args.answers.now c.loop-answer.answer-index c.answer-item.result c.loop-answer-test.true c.answer-item.is c.loop-answer.invariant passes)

pub loop-answer-preserved : goal.loop-answer-preserved
loop-answer-preserved c =
    let fails : takes_number c.answer-item.result.extent c.args.number ≡ false = cc in
    find_more (λ (a : Num). takes_number a.extent c.args.number) c.args.answers.now c.loop-answer.answer-index c.answer-item.result c.loop-answer-test.true c.answer-item.is c.loop-answer.invariant fails
