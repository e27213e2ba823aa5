use Rattle.std.proofs.Common.{Some, refl}
use Rattle.std.proofs.KnownBytes.{Keeps-refl}
use Rattle.qz_ending.specs.declared.stop.Stop.TheVariants as stop
use Rattle.qz_audit.proofs.saying.say_audited.Goals as goal

pub returns-in_default : goal.returns-in_default
returns-in_default g c = record { stop = Some stop.Memory; status_is = c.status.ensures; cause = rw c.in_default.is (refl, Keeps-refl _) }

pub returns-in-Err : goal.returns-in-Err
returns-in-Err g c = record { stop = Some c.in-Err.stop; status_is = c.status-in-Err.ensures; cause = rw c.in-Ok.is c.in-Err.ensures }
