use Rattle.std.proofs.Common.{sym, ◌∙◌}
use Rattle.qz_wire.specs.BankWords.{name_of}
use Rattle.qz_wire.proofs.AskingLemmas.{word_at-none, word_at-reads}
use Rattle.qz_wire.proofs.BriefLemmas.{brief-name}
use Rattle.qz_wire.proofs.arguments.name_at.Goals as goal

pub returns-in-Some-clause-value : goal.returns-in-Some-clause-value
returns-in-Some-clause-value c = word_at-reads name_of c.args.place _ _ _ c.in-Some.name c.in_ok-next_word.ensures (sym c.in-Some.is ∙ c.in_ok-name.ensures)

pub returns-in-Some-clause-brief : goal.returns-in-Some-clause-brief
returns-in-Some-clause-brief c = brief-name c.in_ok-next_word.field-0.now c.in-Some.name (sym c.in-Some.is ∙ c.in_ok-name.ensures)

pub returns-in-None-clause-value : goal.returns-in-None-clause-value
returns-in-None-clause-value c = rw c.malformed.ensures (word_at-none name_of c.args.place _ _ _ c.in_ok-next_word.ensures (sym c.in-None.is ∙ c.in_ok-name.ensures))
