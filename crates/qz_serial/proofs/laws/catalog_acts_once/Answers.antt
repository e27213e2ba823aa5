use Rattle.qz_serial.proofs.Repeating.{repeating_law}
use Rattle.qz_serial.proofs.laws.catalog_acts_once.Goals as goal

pub returns : goal.returns
returns c = repeating_law
