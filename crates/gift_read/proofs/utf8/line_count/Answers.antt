use Rattle.std.proofs.Common.{arith}
use Rattle.std.proofs.lemmas.List.{nil_from_length}
use Rattle.gift_read.proofs.LineCounts.{length-split_lines}
use Rattle.gift_read.proofs.utf8.line_count.Goals as goal

pub returns : goal.returns
returns c =
    let nothing_left = nil_from_length c.loop-rest.rest.now (omega arith) in
    omega (arith, length-split_lines c.args.text.now, rw nothing_left at c.loop-rest.invariant.0)
