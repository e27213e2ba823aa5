use Rattle.qz_serial.proofs.Reports.{reports_law}
use Rattle.qz_serial.proofs.laws.reports_ask.Goals as goal

pub returns : goal.returns
returns c p = reports_law _
