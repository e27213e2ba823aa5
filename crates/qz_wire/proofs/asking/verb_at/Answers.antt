use Rattle.std.proofs.Common.{sym, ◌∙◌}
use Rattle.qz_wire.specs.Asking.{verb_of}
use Rattle.qz_wire.proofs.AskingLemmas.{word_at-none, word_at-reads}
use Rattle.qz_wire.proofs.asking.verb_at.Goals as goal

pub returns-in-Some : goal.returns-in-Some
returns-in-Some c = word_at-reads verb_of 4 _ _ _ c.in-Some.verb c.in_ok-next_word.ensures (sym c.in-Some.is ∙ c.verb_in.ensures)

pub returns-in-None : goal.returns-in-None
returns-in-None c = rw c.malformed.ensures (word_at-none verb_of 4 _ _ _ c.in_ok-next_word.ensures (sym c.in-None.is ∙ c.verb_in.ensures))
