use Rattle.gift_laws.proofs.ReadBackLaw.{reads_back}
use Rattle.gift_laws.proofs.ReadWrittenLaw.{reads_written}
use Rattle.gift_laws.proofs.reads_again.Goals as goal

pub returns : goal.returns
returns c = record { same = λ text bank e. reads_back.same bank (reads_written.written text bank e) }
