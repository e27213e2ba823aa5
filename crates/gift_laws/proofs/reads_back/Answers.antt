use Rattle.gift_laws.proofs.ReadBackLaw.{reads_back}
use Rattle.gift_laws.proofs.reads_back.Goals as goal

pub returns : goal.returns
returns c = reads_back
