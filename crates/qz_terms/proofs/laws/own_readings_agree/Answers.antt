use Rattle.qz_terms.proofs.Isolated.{isolated_law}
use Rattle.qz_terms.proofs.laws.own_readings_agree.Goals as goal

pub returns : goal.returns
returns c = isolated_law
