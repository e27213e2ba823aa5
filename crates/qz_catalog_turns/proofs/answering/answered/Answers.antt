use Rattle.qz_catalog.proofs.KeptCalls.{settled_by}
use Rattle.qz_catalog_turns.proofs.Owning.{mended-each, mended-reply, unmended}
use Rattle.qz_catalog_turns.proofs.answering.answered.Goals as goal

pub applied-requires-clause-settled : goal.applied-requires-clause-settled
applied-requires-clause-settled g c = (settled_by _ _ c.mend.new.self.held c.in-Ok.ensures.mended).no_doubt

pub applied-requires-clause-asked : goal.applied-requires-clause-asked
applied-requires-clause-asked g c = mended-each _ _ _ c.mend.new.self.held c.in-Ok.ensures.mended c.requires.asked

pub returns-in-Ok-clause-answer : goal.returns-in-Ok-clause-answer
returns-in-Ok-clause-answer g c =
    mended-reply _ _ _ _ _ _ _ _ c.mend.new.self.held _ c.applied.result.reply c.applied.result.own c.mend.ensures.goes_on (settled_by _ _ _ c.in-Ok.ensures.mended) c.applied.ensures.answer

pub returns-in-Err-clause-answer : goal.returns-in-Err-clause-answer
returns-in-Err-clause-answer g c = unmended _ _ _ _ c.mend.new.self.held c.in-Err.why c.in-Err.ensures.mended
