use Rattle.qz_wire.specs.Words.{parts_at}
use Rattle.qz_wire.proofs.HintLemmas.{kept-found}
use Rattle.qz_wire.proofs.bank_words.hints_in.Goals as goal

pub returns-clause-kept : goal.returns-clause-kept
returns-clause-kept c = kept-found (parts_at 10 c.as_slice-2.result.now) c.lines_in.result c.lines_in.ensures
