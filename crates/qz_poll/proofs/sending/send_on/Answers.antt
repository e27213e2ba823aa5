use Rattle.qz_poll.specs.Outsides.{outside_of}
use Rattle.qz_poll.proofs.StageLemmas.{sends_more, sends_nothing}
use Rattle.qz_poll.proofs.sending.send_on.Goals as goal

pub loop-link-init : goal.loop-link-init
loop-link-init g c = sends_nothing _ _

pub loop-link-preserved : goal.loop-link-preserved
loop-link-preserved g c =
    let appends = rw (c.in-Ok-Moved.field-0-is, c.unsent.ensures) at c.in-Ok-Moved.ensures.bytes in
    rw c.advance.ensures (sends_more _ _ (outside_of g.L.ReadyLink c.try_write.new.self) c.args.outbox.now c.loop-link.outbox c.in-Ok-Moved.count c.loop-link.invariant appends c.try_write.ensures.apart c.try_write.ensures.cause.later
    (record { key = c.try_write.ensures.same_key; waits = c.try_write.ensures.waits_later; stalls = c.try_write.ensures.pause.later }))
