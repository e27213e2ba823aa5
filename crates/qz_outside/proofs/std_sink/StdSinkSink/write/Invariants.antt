use Rattle.std.proofs.Common.{◌≡◌}
use Rattle.std.specs.Io.KnownBytes.{Keeps}
use Rattle.qz_outside.proofs.std_sink.StdSinkSink.write.Given as goal

abbrev pub invariant-loop : goal.invariant-loop
invariant-loop g l = record {
  faults_stay : l.self-inside.faults ≡ l.initial.self-inside.faults;
  keeps : Keeps (g.W.Write.contents l.initial.self-inside.writer) (g.W.Write.contents l.self-inside.writer);
}
