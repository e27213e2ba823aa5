use Rattle.qz_terms.proofs.Rebinding.{rebinding_law}
use Rattle.qz_terms.proofs.laws.same_bound_changes_nothing.Goals as goal

pub returns : goal.returns
returns c = rebinding_law
