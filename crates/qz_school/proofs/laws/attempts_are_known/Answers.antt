use Rattle.qz_school.proofs.Putting.{known_law}
use Rattle.qz_school.proofs.laws.attempts_are_known.Goals as goal

pub returns : goal.returns
returns c = known_law
