use Rattle.qz_gift.proofs.GiftLemmas.{memory_stops}
use Rattle.qz_gift.proofs.gift_text.tell.Goals as goal

pub returns-in_err-out : goal.returns-in_err-out
returns-in_err-out g c = memory_stops _ _ _ _ _ c.from_residual.ensures
