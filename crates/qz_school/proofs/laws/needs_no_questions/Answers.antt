use Rattle.qz_school.proofs.Leaning.{leaning_law}
use Rattle.qz_school.proofs.laws.needs_no_questions.Goals as goal

pub returns : goal.returns
returns c = leaning_law
