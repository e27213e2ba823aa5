use Rattle.std.proofs.Common.{sym, ◌∙◌, rules}
use Rattle.gift_read.proofs.ValueLemmas.{other_of-some}
use Rattle.gift_read.proofs.kinds.with_other.Goals as goal

pub returns : goal.returns
returns c =
    let some = other_of-some c.args.format c.args.others.now (sym c.if-is_empty.false ∙ c.is_empty.ensures) in
    rw some (search rules)
