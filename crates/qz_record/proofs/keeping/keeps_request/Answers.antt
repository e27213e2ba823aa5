use Rattle.std.proofs.Common.{map, ap, subst, sym}
use Rattle.qz_grading.specs.declared.question.Item.{Item}
use Rattle.qz_terms.specs.declared.request.Request.{Request}
use Rattle.qz_terms.specs.Kept.{AreQuestions, KeepsRequest}
use Rattle.qz_record.proofs.keeping.keeps_request.Goals as goal

pub returns-in-Import : goal.returns-in-Import
returns-in-Import c =
    let same = ap (map (λ (i : Item). i.question)) c.as_slice.ensures in (
      λ yes. subst (λ (x : Request). KeepsRequest x) (sym c.in-Import.is) (subst AreQuestions same (c.are_questions.ensures.0 yes)),
      λ keeps. c.are_questions.ensures.1 (subst AreQuestions (sym same) (subst (λ (x : Request). KeepsRequest x) c.in-Import.is keeps)),
    )
