use Rattle.qz_school.proofs.AlikeInSchool.{alone_law}
use Rattle.qz_school.proofs.laws.alike_in_a_school.Goals as goal

pub returns : goal.returns
returns c = alone_law
