use Rattle.qz_terms.proofs.Highest.{highest_law}
use Rattle.qz_terms.proofs.laws.highest_is_highest.Goals as goal

pub returns : goal.returns
returns c = highest_law
