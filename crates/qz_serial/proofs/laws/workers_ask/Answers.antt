use Rattle.qz_serial.proofs.Workers.{workers_law}
use Rattle.qz_serial.proofs.laws.workers_ask.Goals as goal

pub returns : goal.returns
returns c p = workers_law _
