use Rattle.qz_terms.proofs.Adding.{adding_law}
use Rattle.qz_terms.proofs.laws.adds_nothing.Goals as goal

pub returns : goal.returns
returns c = adding_law
