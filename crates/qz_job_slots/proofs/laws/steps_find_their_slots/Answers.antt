use Rattle.qz_job_slots.proofs.Steps.{steps_law}
use Rattle.qz_job_slots.proofs.laws.steps_find_their_slots.Goals as goal

pub returns : goal.returns
returns c = steps_law
