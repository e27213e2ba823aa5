use Rattle.qz_terms.proofs.Noted.{noted_law}
use Rattle.qz_terms.proofs.laws.noted_changes_nothing.Goals as goal

pub returns : goal.returns
returns c = noted_law
