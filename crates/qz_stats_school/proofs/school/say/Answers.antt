use Rattle.std.proofs.Common.{List, ℕ, Some, refl, subst}
use Rattle.std.proofs.KnownBytes.{Keeps-refl}
use Rattle.qz_ending.specs.declared.stop.Stop.TheVariants as stop
use Rattle.qz_outside.specs.Sources.{AppendsFront}
use Rattle.qz_stats_school.proofs.school.say.Goals as goal

pub returns-in_default : goal.returns-in_default
returns-in_default g c = record { stop = Some stop.Memory; status_is = c.status.ensures; cause = rw c.in_default.is (refl, Keeps-refl _) }

pub returns : goal.returns
returns g c = record {
  stop = Some stop.SinkFault;
  status_is = c.status-in-Err.ensures;
  cause = rw c.in-Ok.is (subst (λ (b : List ℕ). AppendsFront (g.O.Sink.holds c.args.sink.now) (g.O.Sink.holds c.write_all.new.sink) b) c.as_bytes.ensures.value c.in-Err.ensures.front, c.in-Err.ensures.cause.failed);
}
