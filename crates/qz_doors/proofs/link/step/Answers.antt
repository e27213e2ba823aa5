use Rattle.std.proofs.Common.{refl}
use Rattle.qz_doors.specs.Steps.{before}
use Rattle.qz_doors.proofs.ServeLemmas.{acts_step}
use Rattle.qz_doors.proofs.link.step.Goals as goal

pub returns-in_default : goal.returns-in_default
returns-in_default g c = before refl refl

pub returns : goal.returns
returns g c = acts_step _ _ _ _ _ _ _ _ _ c.act.result c.in-Ok.ensures.given c.act.ensures
