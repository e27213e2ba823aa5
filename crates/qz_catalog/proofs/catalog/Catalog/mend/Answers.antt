use Rattle.qz_keeper.proofs.Calls.{unsettled_call}
use Rattle.qz_catalog.proofs.catalog.Catalog.mend.Goals as goal

pub returns-in-Err-clause-mended : goal.returns-in-Err-clause-mended
returns-in-Err-clause-mended g c = rw c.refusal_of.ensures (unsettled_call _ _ _ _ _ c.in-Err.why c.in-Err.ensures.settles)
