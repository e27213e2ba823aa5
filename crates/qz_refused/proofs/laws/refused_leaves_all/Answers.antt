use Rattle.qz_refused.proofs.Leaving.{leaving_law}
use Rattle.qz_refused.proofs.laws.refused_leaves_all.Goals as goal

pub returns : goal.returns
returns c = leaving_law
