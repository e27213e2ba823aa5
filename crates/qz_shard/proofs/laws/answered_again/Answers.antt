use Rattle.qz_shard.proofs.Again.{again}
use Rattle.qz_shard.proofs.laws.answered_again.Goals as goal

pub returns : goal.returns
returns c = again
