use Rattle.qz_wire.proofs.RequestLemmas.{edit-refuses}
use Rattle.qz_wire.proofs.catalog_requests.edit.Goals as goal

pub returns-in-Err-clause-value : goal.returns-in-Err-clause-value
returns-in-Err-clause-value c = rw c.from.ensures (edit-refuses _ _ _ c.in_ok-entry.entry c.in_ok-gift.gift c.in-Err.fault c.in_ok-entry.ensures c.in_ok-gift.ensures.value c.in-Err.ensures)
