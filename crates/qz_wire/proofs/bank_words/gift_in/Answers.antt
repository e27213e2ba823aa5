use Rattle.qz_wire.proofs.DescribedLemmas.{read-described}
use Rattle.qz_wire.proofs.bank_words.gift_in.Goals as goal

pub returns-in-Ok-clause-described : goal.returns-in-Ok-clause-described
returns-in-Ok-clause-described c = read-described c.args.text.now c.in-Ok.bank c.in-Ok.ensures.reading
