use Rattle.qz_terms.proofs.Joined.{joined_law}
use Rattle.qz_terms.proofs.laws.answered_here.Goals as goal

pub returns : goal.returns
returns c = joined_law
