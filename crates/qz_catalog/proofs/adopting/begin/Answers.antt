use Rattle.std.proofs.Common.{List, sym, subst, ◌∙◌}
use Rattle.qz_terms.specs.declared.record.Record.{Record}
use Rattle.qz_roster.specs.Roster.{IsNext}
use Rattle.qz_catalog.proofs.AdoptLemmas.{allowed-next, begin-ready, legal-none}
use Rattle.qz_catalog.proofs.adopting.begin.Goals as goal

pub make_book_room-requires-clause-next : goal.make_book_room-requires-clause-next
make_book_room-requires-clause-next c = subst (λ (l : List Record). IsNext l c.args.record) (sym c.new.ensures.items) (allowed-next _ c.args.record legal-none c.requires.allowed)

pub append-requires-clause-ready : goal.append-requires-clause-ready
append-requires-clause-ready c =
    let room = c.make_book_room.ensures in
    begin-ready c.make_book_room.new.book c.args.record c.requires.allowed c.requires.kept (room.records ∙ c.new.ensures.items) (room.entries ∙ c.new-2.ensures) (room.shown ∙ c.new-4.ensures.items) (room.pinned ∙ c.new-5.ensures.items)
    room.roster c.in_ok-make_book_room.ensures.room c.in_ok-make_book_room.ensures.place c.in_ok-make_book_room.ensures.number c.in_ok-make_book_room.ensures.pin
