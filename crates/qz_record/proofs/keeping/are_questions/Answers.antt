use Rattle.std.proofs.Common.{◌≡◌, true, map, refl, sym, ap, subst}
use Rattle.std.proofs.lemmas.List.{take_all}
use Rattle.qz_grading.specs.Questions.{IsQuestion}
use Rattle.qz_terms.specs.Kept.{AreQuestions}
use Rattle.qz_record.proofs.TextLengths.{all_at, all_more}
use Rattle.qz_record.proofs.keeping.are_questions.Goals as goal

pub returns-then-not-is_question : goal.returns-then-not-is_question
returns-then-not-is_question g c = (
  λ no. absurd cc,
  λ all.
      let here = all_at IsQuestion g.A.Asking.asked c.args.asking.now c.loop-part.part-index c.part-item.result c.loop-part-test.true c.part-item.is all in
      let yes : c.is_question.result ≡ true = c.is_question.ensures.1 (subst IsQuestion (sym c.question.ensures) here) in
      absurd (cc (yes, c.if-not-is_question.true)),
)

pub loop-part-preserved : goal.loop-part-preserved
loop-part-preserved g c =
    let yes : c.is_question.result ≡ true = cc (c.if-not-is_question.false) in
    let here = subst IsQuestion c.question.ensures (c.is_question.ensures.0 yes) in
    all_more IsQuestion g.A.Asking.asked c.args.asking.now c.loop-part.part-index c.part-item.result c.loop-part-test.true c.part-item.is c.loop-part.invariant here

pub returns : goal.returns
returns g c =
    let whole = ap (map g.A.Asking.asked) (take_all c.loop-part.part-index c.args.asking.now c.loop-part-test.false) in
    (λ yes. subst AreQuestions whole c.loop-part.invariant, λ all. refl)
