use Rattle.std.proofs.Common.{arith}
use Rattle.qz_doors.proofs.ServeLemmas.{reads_end, reads_piece}
use Rattle.qz_poll.proofs.reading.read_on.Goals as goal

pub returns-in-Ok-Moved-eq0 : goal.returns-in-Ok-Moved-eq0
returns-in-Ok-Moved-eq0 g c =
    let bytes = rw c.in-Ok-Moved-eq0.field-0-is at c.in-Ok-Moved-eq0.ensures.bytes in (
      reads_end _ _ _ _ c.try_read.new.room c.in-Ok-Moved-eq0.field-0-0 (omega (arith, c.in-Ok-Moved-eq0.field-0-0-is)) bytes (omega (arith, c.requires.room, c.try_read.auto.room)) c.finish.ensures c.try_read.ensures.apart c.try_read.ensures.cause.later,
      record { key = c.try_read.ensures.same_key; waits = c.try_read.ensures.pause.later; stalls = c.try_read.ensures.stalls_later },
    )

pub returns-in-Ok : goal.returns-in-Ok
returns-in-Ok g c =
    let bytes = rw c.in-Ok-Moved.field-0-is at c.in-Ok-Moved.ensures.bytes in
    let count = rw c.in-Ok-Moved.field-0-is at c.in-Ok-Moved.ensures.count in (
      reads_piece _ _ _ _ c.try_read.new.room c.in-Ok-Moved.count (omega (arith, c.in-Ok-Moved.count-test)) count bytes.0 c.in-Ok.ensures.fed c.try_read.ensures.apart c.try_read.ensures.cause.later,
      record { key = c.try_read.ensures.same_key; waits = c.try_read.ensures.pause.later; stalls = c.try_read.ensures.stalls_later },
    )
