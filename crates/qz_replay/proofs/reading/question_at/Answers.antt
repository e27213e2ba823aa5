use Rattle.std.proofs.Common.{sym, ◌∙◌}
use Rattle.qz_replay.specs.Replay.{question_line}
use Rattle.qz_wire.proofs.AskingLemmas.{word_at-reads}
use Rattle.qz_replay.proofs.reading.question_at.Goals as goal

pub returns-in-Some-clause-value : goal.returns-in-Some-clause-value
returns-in-Some-clause-value c = word_at-reads question_line 5 _ _ _ c.in-Some.question c.in_ok-first_line.ensures.value (sym c.in-Some.is ∙ c.in_ok-question.ensures.value)
