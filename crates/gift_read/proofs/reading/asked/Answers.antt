use Rattle.std.proofs.Common.{sym, ◌∙◌}
use Rattle.gift_read.proofs.FaultLemmas.{told-fault}
use Rattle.gift_read.proofs.reading.asked.Goals as goal

pub returns-in-Some-2 : goal.returns-in-Some-2
returns-in-Some-2 c = rw c.malformed-in-Some-2.ensures (told-fault c.args.block.now c.in-Some-2.rule (sym c.in-Some-2.is ∙ c.in_ok-rule.ensures))
