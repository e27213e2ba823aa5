use Rattle.std.proofs.Common.{sym, ◌∙◌}
use Rattle.qz_wire.proofs.GatheringLemmas.{escape-first, one_more, plain-first}
use Rattle.qz_wire.proofs.escapes.unescaped.Goals as goal

pub loop-rest-preserved-then-first-ne92 : goal.loop-rest-preserved-then-first-ne92
loop-rest-preserved-then-first-ne92 c =
    rw c.in_ok-push.ensures.items (one_more c.loop-rest.items.items _ _ _ c.loop-rest.invariant _ (plain-first c.loop-rest.rest.now c.in-len1-up.len_at_least c.if-first-ne92.true))

pub loop-rest-preserved : goal.loop-rest-preserved
loop-rest-preserved c =
    let first = escape-first c.loop-rest.rest.now c.in-Some.byte c.in-len1-up-after.len_at_least c.if-first-ne92.false (sym c.in-Some.is ∙ c.escaped.ensures) in
    rw c.in_ok-push-2.ensures.items (one_more c.loop-rest.items.items _ _ _ c.loop-rest.invariant c.in-Some.byte first)
