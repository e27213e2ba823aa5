use Rattle.std.proofs.Common.{arith}
use Rattle.qz_doors.proofs.ServeLemmas.{reads_end, reads_piece}
use Rattle.qz_doors.proofs.link.read_on.Goals as goal

pub returns-then-count-eq0 : goal.returns-then-count-eq0
returns-then-count-eq0 g c =
    reads_end _ _ _ _ c.read.new.room c.in-Ok.count (omega (arith, c.if-count-eq0.true)) c.in-Ok.ensures.bytes (omega (arith, c.requires.room, c.read.auto.room)) c.finish.ensures c.read.ensures.apart c.read.ensures.cause.later

pub returns-in_ok-feed : goal.returns-in_ok-feed
returns-in_ok-feed g c =
    reads_piece _ _ _ _ c.read.new.room c.in-Ok.count (omega (arith, c.if-count-eq0.false)) c.in-Ok.ensures.count c.in-Ok.ensures.bytes.0 c.in_ok-feed.ensures.fed c.read.ensures.apart c.read.ensures.cause.later
