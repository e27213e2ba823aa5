use Rattle.qz_school.proofs.Putting.{agreeing_law}
use Rattle.qz_school.proofs.laws.goes_on_agreeing.Goals as goal

pub returns : goal.returns
returns c = agreeing_law
