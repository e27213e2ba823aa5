use Rattle.std.proofs.Common.{Some, refl, subst}
use Rattle.std.proofs.KnownBytes.{Keeps-refl}
use Rattle.qz_ending.specs.declared.stop.Stop.TheVariants as stop
use Rattle.qz_served.specs.declared.saying.Served.{Served}
use Rattle.qz_served.specs.Saying.{SaysServed}
use Rattle.qz_serving.proofs.saying.say_ended.Goals as goal

pub returns-in_default : goal.returns-in_default
returns-in_default g c = record { stop = Some stop.Memory; status_is = c.status.ensures; cause = rw c.in_default.is (refl, Keeps-refl _) }

pub returns-in-Err : goal.returns-in-Err
returns-in-Err g c =
    let said = subst (λ (v : Served). SaysServed (g.O.Sink.holds c.args.sink.now) (g.O.Sink.holds c.say_served.new.sink) (g.O.Sink.faults c.args.sink.now) (g.O.Sink.faults c.say_served.new.sink) v (Some c.in-Err.stop)) c.served_of.ensures c.in-Err.ensures in
    record { stop = Some c.in-Err.stop; status_is = c.status-in-Err.ensures; cause = rw c.in-Ok.is said }
