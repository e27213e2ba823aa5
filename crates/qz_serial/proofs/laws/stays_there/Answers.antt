use Rattle.qz_serial.proofs.Longer.{staying_law}
use Rattle.qz_serial.proofs.laws.stays_there.Goals as goal

pub returns : goal.returns
returns c = staying_law
