use Rattle.qz_terms.proofs.Standing.{once_law}
use Rattle.qz_terms.proofs.laws.acts_once.Goals as goal

pub returns : goal.returns
returns c = once_law
