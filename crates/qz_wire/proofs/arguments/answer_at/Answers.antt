use Rattle.std.proofs.Common.{sym, ◌∙◌}
use Rattle.qz_wire.specs.Answers.{answer_of}
use Rattle.qz_wire.proofs.AskingLemmas.{word_at-none, word_at-reads}
use Rattle.qz_wire.proofs.arguments.answer_at.Goals as goal

pub returns-in-Some-clause-value : goal.returns-in-Some-clause-value
returns-in-Some-clause-value c = word_at-reads answer_of c.args.place _ _ _ c.in-Some.answer c.in_ok-next_word.ensures (sym c.in-Some.is ∙ c.in_ok-answer.ensures.value)

pub returns-in-None-clause-value : goal.returns-in-None-clause-value
returns-in-None-clause-value c = rw c.malformed.ensures (word_at-none answer_of c.args.place _ _ _ c.in_ok-next_word.ensures (sym c.in-None.is ∙ c.in_ok-answer.ensures.value))
