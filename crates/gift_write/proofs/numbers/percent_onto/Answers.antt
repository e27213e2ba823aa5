use Rattle.gift_write.proofs.NumberLemmas.{short_number-percent}
use Rattle.gift_write.proofs.numbers.percent_onto.Goals as goal

pub returns : goal.returns
returns c = rw (c.percent_of.ensures, short_number-percent c.args.weight) at c.spell_onto.ensures.added
