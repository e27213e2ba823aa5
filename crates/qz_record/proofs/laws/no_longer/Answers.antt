use Rattle.qz_record.proofs.RecordLengths.{learned-few, record-short, same_length}
use Rattle.qz_record.proofs.laws.no_longer.Goals as goal

pub returns : goal.returns
returns c = record { short = record-short; measured = same_length; few = learned-few }
