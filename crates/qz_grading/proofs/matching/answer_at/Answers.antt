use Rattle.std.proofs.Common.{◌≡◌, true, false, arith, take}
use Rattle.std.specs.List.{list_any}
use Rattle.qz_grading.proofs.AnswersLemmas.{has_same, known_pair, new_pair, found_new, found_none}
use Rattle.qz_grading.proofs.matching.answer_at.Goals as goal
use Rattle.qz_grading.proofs.matching.answer_at.Goals.{then-not-has_answer+else-count-from, else-not-has_answer}

pub returns-then-count-from : goal.returns-then-count-from
returns-then-count-from c =
    let new : list_any (has_same c.index-pairs-index.result) (take c.loop-index.index c.args.pairs.now) ≡ false = cc (c.has_answer.ensures, c.if-not-has_answer.true) in
    found_new c.args.pairs.now c.loop-index.index c.index-pairs-index.result c.loop-index.count c.args.place c.loop-index-test.true c.index-pairs-index.is new c.loop-index.invariant.value (omega arith)

pub loop-index-preserved : goal.loop-index-preserved
loop-index-preserved c =
    let x = c.index-pairs-index.result in
    let ps = c.args.pairs.now in
    elim c.if-not-has_answer.branch [
      | then-not-has_answer+else-count-from w ↦
          let new : list_any (has_same x) (take c.loop-index.index ps) ≡ false = cc (c.has_answer.ensures, w.if-not-has_answer.true) in
          record { value = omega (arith, new_pair ps c.loop-index.index x c.loop-index-test.true c.index-pairs-index.is new); few = omega arith; before = λ some. omega (arith, c.loop-index.invariant.before some) }
      | else-not-has_answer w ↦
          let known : list_any (has_same x) (take c.loop-index.index ps) ≡ true = cc (c.has_answer.ensures, w.if-not-has_answer.false) in
          record { value = omega (arith, known_pair ps c.loop-index.index x c.loop-index-test.true c.index-pairs-index.is known); few = omega arith; before = λ some. omega (arith, c.loop-index.invariant.before some) }
    ]

pub returns : goal.returns
returns c = found_none c.args.pairs.now c.loop-index.index c.loop-index.count c.args.place c.loop-index-test.false c.loop-index.invariant.value c.loop-index.invariant.before
