use Rattle.std.proofs.Common.{sym, ◌∙◌}
use Rattle.qz_wire.proofs.BankLemmas.{the-question}
use Rattle.qz_wire.proofs.DescribedLemmas.{the-described}
use Rattle.qz_wire.proofs.bank_words.question_in.Goals as goal

pub returns-in-Some-clause-kept : goal.returns-in-Some-clause-kept
returns-in-Some-clause-kept c = the-question c.in_ok-bank.bank.items c.in-Some.question (sym c.in-Some.is ∙ c.only_question.ensures) c.in_ok-bank.ensures.kept

pub returns-in-Some-clause-described : goal.returns-in-Some-clause-described
returns-in-Some-clause-described c = the-described c.in_ok-bank.bank.items c.in-Some.question (sym c.in-Some.is ∙ c.only_question.ensures) c.in_ok-bank.ensures.described
