use Rattle.std.proofs.Common.{refl}
use Rattle.qz_wire.specs.BankWords.{only_question}
use Rattle.qz_wire.proofs.BankLemmas.{kept-found}
use Rattle.qz_replay.proofs.questions.question_in.Goals as goal

pub returns-in-Ok-clause-question : goal.returns-in-Ok-clause-question
returns-in-Ok-clause-question c = rw c.only_question.ensures (kept-found c.in-Ok.bank.items (only_question c.in-Ok.bank.items) refl c.in-Ok.ensures.questions)
