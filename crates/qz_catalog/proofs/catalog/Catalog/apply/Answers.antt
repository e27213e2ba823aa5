use Rattle.qz_keeper.proofs.Calls.{mended_call, unsettled_call}
use Rattle.qz_catalog.proofs.catalog.Catalog.apply.Goals as goal

pub returns-in-Err-clause-answer : goal.returns-in-Err-clause-answer
returns-in-Err-clause-answer g c = rw c.refusal_of.ensures (unsettled_call _ _ _ _ _ c.in-Err.why c.in-Err.ensures.settles)

pub returns-clause-answer : goal.returns-clause-answer
returns-clause-answer g c = mended_call _ _ _ _ _ _ _ _ c.settle.new.self.held _ c.answer.result c.settle.ensures.goes_on c.in_default.ensures.settles c.answer.ensures.ends
