use Rattle.qz_terms.proofs.Owning.{owning_law}
use Rattle.qz_terms.proofs.laws.answers_are_own.Goals as goal

pub returns : goal.returns
returns c = owning_law
