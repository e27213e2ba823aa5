use Rattle.std.proofs.Common.{length}
use Rattle.qz_outside.specs.Sources.{WritesOn}
use Rattle.qz_outside.proofs.write.write_all.Given as goal

abbrev pub invariant-loop-rest : goal.invariant-loop-rest
invariant-loop-rest g l =
    WritesOn (g.O.Sink.holds l.fn.sink) (g.O.Sink.holds l.sink) (g.O.Sink.faults l.fn.sink) (g.O.Sink.faults l.sink) l.bytes l.rest

abbrev pub decreases-loop-rest : goal.decreases-loop-rest
decreases-loop-rest g l = length l.rest
