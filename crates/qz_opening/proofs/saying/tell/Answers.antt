use Rattle.std.proofs.Common.{sym}
use Rattle.std.specs.Prelude.{string_bytes}
use Rattle.qz_opening.proofs.Refusing.{tells_line}
use Rattle.qz_opening.proofs.saying.tell.Goals as goal

pub returns-in-Ok-Some : goal.returns-in-Ok-Some
returns-in-Ok-Some g c =
    tells_line c.args.fault.now (string_bytes c.in-Ok-Some.line) (record { holds = g.O.Sink.holds c.args.sink.now; faults = g.O.Sink.faults c.args.sink.now }) (record { holds = g.O.Sink.holds c.refuse.new.sink; faults = g.O.Sink.faults c.refuse.new.sink }) c.refuse.result
    (sym (rw c.in-Ok-Some.field-0-is at c.in-Ok-Some.ensures)) (rw c.as_bytes.ensures.value at c.refuse.ensures)
