use Rattle.qz_serial.proofs.Settling.{settling_law}
use Rattle.qz_serial.proofs.laws.workers_settle.Goals as goal

pub returns : goal.returns
returns c p = settling_law _
