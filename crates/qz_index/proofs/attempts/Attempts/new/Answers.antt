use Rattle.std.proofs.Common.{refl}
use Rattle.qz_index.proofs.StartLemmas.{attempts-none}
use Rattle.qz_index.proofs.attempts.Attempts.new.Goals as goal

pub returns : goal.returns
returns c = attempts-none _ (λ q u. rw c.new.ensures.empty refl)
