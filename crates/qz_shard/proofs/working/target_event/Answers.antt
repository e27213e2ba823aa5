use Rattle.std.proofs.Common.{All, sym, subst}
use Rattle.qz_grading.specs.Questions.{IsQuestion}
use Rattle.qz_shard.proofs.working.target_event.Goals as goal

pub rebound_or_skipped-requires-clause-newer : goal.rebound_or_skipped-requires-clause-newer
rebound_or_skipped-requires-clause-newer c = c.in-Some-question_at.ensures.kept (subst (All IsQuestion) (sym c.as_slice-2.ensures) c.requires.questions)
