use Rattle.qz_keeper.proofs.Keeping.{follows}
use Rattle.qz_keeper.proofs.laws.lists_follow.Goals as goal

pub returns : goal.returns
returns c = follows
