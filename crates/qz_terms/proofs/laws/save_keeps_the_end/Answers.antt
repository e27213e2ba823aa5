use Rattle.qz_terms.proofs.Saving.{saving_law}
use Rattle.qz_terms.proofs.laws.save_keeps_the_end.Goals as goal

pub returns : goal.returns
returns c = saving_law
