use Rattle.qz_schedule.proofs.Schedules.{schedule_law}
use Rattle.qz_schedule.proofs.laws.every_schedule.Goals as goal

pub returns : goal.returns
returns c = schedule_law
