use Rattle.qz_record.proofs.Parsing.{spelled-same, spelled-whole}
use Rattle.qz_record.proofs.laws.one_spelling.Goals as goal

pub returns : goal.returns
returns c = record { same = spelled-same; whole = spelled-whole }
