use Rattle.qz_regrading.proofs.Telling.{keeping_law}
use Rattle.qz_regrading.proofs.laws.asks_keep.Goals as goal

pub returns : goal.returns
returns c = keeping_law
