use Rattle.qz_book.proofs.SlotLemmas.{slot-some}
use Rattle.qz_shard.proofs.stepping.fate_of_mark.Goals as goal

pub slot_there-played-requires : goal.slot_there-played-requires
slot_there-played-requires c = slot-some c.args.book.now c.args.user.now c.args.attempt c.args.place c.requires.sound c.requires.there
