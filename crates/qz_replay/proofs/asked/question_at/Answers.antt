use Rattle.std.proofs.Common.{sym, ◌∙◌}
use Rattle.qz_replay.specs.Replay.{question_of}
use Rattle.qz_wire.proofs.AskingLemmas.{word_at-reads}
use Rattle.qz_replay.proofs.asked.question_at.Goals as goal

pub returns-in-Some-clause-value : goal.returns-in-Some-clause-value
returns-in-Some-clause-value c = word_at-reads question_of c.args.place _ _ _ c.in-Some.question c.in_ok-next_word.ensures (sym c.in-Some.is ∙ c.in_ok-question.ensures.value)
