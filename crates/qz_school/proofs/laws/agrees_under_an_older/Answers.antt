use Rattle.qz_school.proofs.Putting.{older_law}
use Rattle.qz_school.proofs.laws.agrees_under_an_older.Goals as goal

pub returns : goal.returns
returns c = older_law
