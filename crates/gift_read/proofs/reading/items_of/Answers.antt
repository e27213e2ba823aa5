use Rattle.std.proofs.Common.{sym, ◌∙◌}
use Rattle.gift_read.specs.Gift.{items_of}
use Rattle.gift_read.proofs.ReadLemmas.{in_front-taken}
use Rattle.gift_read.proofs.reading.items_of.Goals as goal

pub loop-gathered-preserved : goal.loop-gathered-preserved
loop-gathered-preserved c =
    let coming = rw c.in-Some.is at c.in_ok-block.ensures in
    let entry = c.in_ok-entry.ensures in
    let before = rw (coming, entry) at c.loop-gathered.invariant in
    rw c.in_ok-take.ensures (sym (in_front-taken c.loop-gathered.gathered c.in_ok-entry.entry (λ names. items_of names c.next.new.self)) ∙ before)
