use Rattle.qz_serial.proofs.Acting.{acting_law}
use Rattle.qz_serial.proofs.laws.acts_once_in_lists.Goals as goal

pub returns : goal.returns
returns c p = acting_law _
