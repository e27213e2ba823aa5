use Rattle.qz_wire.proofs.EscapeLemmas.{word-read}
use Rattle.qz_wire.proofs.escapes.text_word_onto.Goals as goal

pub returns-clause-read : goal.returns-clause-read
returns-clause-read c = word-read c.args.text.now
