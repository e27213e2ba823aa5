use Rattle.std.proofs.Common.{sym, ◌∙◌}
use Rattle.qz_legal.proofs.TakeLemmas.{place-slot}
use Rattle.qz_legal.proofs.request_puts.taken.Goals as goal

pub slot_there-requires : goal.slot_there-requires
slot_there-requires c = place-slot c.args.book.now c.args.attempt c.args.slot c.requires.sound (sym c.has_slot.ensures ∙ c.if-not-has_slot.false)
