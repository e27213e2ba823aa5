use Rattle.std.proofs.Common.{sym, ◌∙◌}
use Rattle.qz_wire.proofs.AskingLemmas.{not-end}
use Rattle.qz_wire.proofs.arguments.end.Goals as goal

pub returns-else-is_empty : goal.returns-else-is_empty
returns-else-is_empty c = rw c.malformed.ensures (not-end c.args.place tt c.args.rest.now (sym c.is_empty.ensures ∙ c.if-is_empty.false))
