use Rattle.std.proofs.Common.{length, inl, inr}
use Rattle.qz_catalog.proofs.Slots.{entry-at, entry-past, place-past}
use Rattle.qz_catalog.proofs.quizzes.slot_entry.Goals as goal

pub returns-then-number-slots : goal.returns-then-number-slots
returns-then-number-slots c = entry-at c.args.book.now.records.items c.args.quiz c.args.number c.from-number.result c.slots_made-slots.result.now c.index-slots-number.result c.slots_made-slots.ensures c.from-number.ensures c.if-number-ge1.true c.if-number-slots.true

pub returns-else-number-ge1 : goal.returns-else-number-ge1
returns-else-number-ge1 c = entry-past c.args.book.now.records.items c.args.quiz c.args.number c.from-number.result c.slots_made-slots.result.now c.slots_made-slots.ensures c.from-number.ensures
    (elim c.else-number-ge1.either [
      | inl past ↦ place-past (length c.slots_made-slots.result.now) c.from-number.result (inr past.1)
      | inr none ↦ place-past (length c.slots_made-slots.result.now) c.from-number.result (inl none)
    ])
