use Rattle.std.proofs.Common.{◌∙◌}
use Rattle.qz_grading.specs.declared.refusal.Refusal.TheVariants as refusal
use Rattle.qz_grading.specs.declared.refusal.Thing.TheVariants as thing
use Rattle.qz_terms.specs.Catalog.{quizzes}
use Rattle.qz_roster.proofs.Telling.{missing-by}
use Rattle.qz_catalog.proofs.missing.missing_quiz.Goals as goal

pub returns : goal.returns
returns c = c.missing.ensures ∙ missing-by (quizzes c.args.book.now.records.items) c.count.result c.args.quiz (refusal.Unknown thing.Quiz) (c.count.ensures.value c.args.book.now.records.items c.requires.roster.quizzes)
