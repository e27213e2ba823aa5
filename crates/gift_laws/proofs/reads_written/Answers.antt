use Rattle.gift_laws.proofs.ReadWrittenLaw.{reads_written}
use Rattle.gift_laws.proofs.reads_written.Goals as goal

pub returns : goal.returns
returns c = reads_written
