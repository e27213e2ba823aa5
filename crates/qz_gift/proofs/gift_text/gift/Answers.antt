use Rattle.qz_gift.proofs.GiftLemmas.{gifts_all}
use Rattle.qz_gift.proofs.gift_text.gift.Goals as goal

pub returns-in-Err-clause-complete : goal.returns-in-Err-clause-complete
returns-in-Err-clause-complete g c = rw c.status.ensures (gifts_all c.args.writes _ _ c.in-Err.stop c.in-Err.ensures)
