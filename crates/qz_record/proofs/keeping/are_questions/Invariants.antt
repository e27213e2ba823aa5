use Rattle.std.proofs.Common.{map, take}
use Rattle.qz_terms.specs.Kept.{AreQuestions}
use Rattle.qz_record.proofs.keeping.are_questions.Given as goal

abbrev pub invariant-loop-part : goal.invariant-loop-part
invariant-loop-part g l = AreQuestions (map g.A.Asking.asked (take l.part-index l.asking))
