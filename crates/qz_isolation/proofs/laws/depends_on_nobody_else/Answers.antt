use Rattle.qz_isolation.proofs.Answering.{isolation_law}
use Rattle.qz_isolation.proofs.laws.depends_on_nobody_else.Goals as goal

pub returns : goal.returns
returns c = isolation_law
