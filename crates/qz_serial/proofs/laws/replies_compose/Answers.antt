use Rattle.qz_serial.proofs.Composing.{replies_compose}
use Rattle.qz_serial.proofs.laws.replies_compose.Goals as goal

pub returns : goal.returns
returns c p = replies_compose _
