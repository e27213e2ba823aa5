use Rattle.qz_regrading.proofs.Telling.{telling_law}
use Rattle.qz_regrading.proofs.laws.asks_tell.Goals as goal

pub returns : goal.returns
returns c = telling_law
