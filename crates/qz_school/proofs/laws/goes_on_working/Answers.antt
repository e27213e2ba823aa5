use Rattle.qz_school.proofs.Working.{working_law}
use Rattle.qz_school.proofs.laws.goes_on_working.Goals as goal

pub returns : goal.returns
returns c = working_law
