use Rattle.std.proofs.Common.{◌≡◌, true, false, arith, take}
use Rattle.std.specs.List.{list_any}
use Rattle.qz_grading.proofs.AnswersLemmas.{has_same, known_pair, new_pair}
use Rattle.qz_grading.proofs.matching.answer_count.Goals as goal
use Rattle.qz_grading.proofs.matching.answer_count.Goals.{then-not-has_answer, else-not-has_answer}

pub loop-index-preserved : goal.loop-index-preserved
loop-index-preserved c =
    let x = c.index-pairs-index.result in
    let ps = c.args.pairs.now in
    elim c.if-not-has_answer.branch [
      | then-not-has_answer w ↦
          let new : list_any (has_same x) (take c.loop-index.index ps) ≡ false = cc (c.has_answer.ensures, w.if-not-has_answer.true) in
          record { value = omega (arith, new_pair ps c.loop-index.index x c.loop-index-test.true c.index-pairs-index.is new); few = omega arith }
      | else-not-has_answer w ↦
          let known : list_any (has_same x) (take c.loop-index.index ps) ≡ true = cc (c.has_answer.ensures, w.if-not-has_answer.false) in
          record { value = omega (arith, known_pair ps c.loop-index.index x c.loop-index-test.true c.index-pairs-index.is known); few = omega arith }
    ]
