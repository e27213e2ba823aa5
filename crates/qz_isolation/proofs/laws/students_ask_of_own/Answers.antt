use Rattle.qz_isolation.proofs.Asking.{asking_law}
use Rattle.qz_isolation.proofs.laws.students_ask_of_own.Goals as goal

pub returns : goal.returns
returns c = asking_law
