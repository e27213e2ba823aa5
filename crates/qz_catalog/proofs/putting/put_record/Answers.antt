use Rattle.std.proofs.Common.{◌+◌, ◌-◌, ◌<◌, ◌≤◌, ◌^◌, List, [], ◌∷◌, ◌++◌, length, sym, subst}
use Rattle.qz_terms.specs.declared.record.Record.{Record}
use Rattle.qz_terms.specs.Catalog.{entries}
use Rattle.qz_bank.specs.declared.entry.Entry.{Entry}
use Rattle.qz_roster.specs.Roster.{IsNext}
use Rattle.qz_catalog.specs.Applying.{IsReady, MayPut, bank_with}
use Rattle.qz_catalog.specs.Holdings.{ArePinned, AreShown, IsHeld, IsPin}
use Rattle.qz_catalog.proofs.AdoptLemmas.{room-book}
use Rattle.qz_catalog.proofs.Bounds.{entries-few}
use Rattle.qz_catalog.proofs.putting.put_record.Goals as goal

pub append-requires-clause-ready : goal.append-requires-clause-ready
append-requires-clause-ready g c =
    let list = c.args.book.now.records.items in
    let bank = c.args.book.now.entries in
    let p = c.args.prepared in
    let r = c.args.record in
    let room = c.make_book_room.ensures in
    let items = room.records in
    let few : length list + 1 < 2 ^ 32 - 1 = subst (λ (l : List Record). length l + 1 < 2 ^ 32 - 1) items c.in_ok-make_book_room.ensures.few in
    subst (λ (s : Record). IsReady c.make_book_room.new.book s p) (sym c.in_ok-record.ensures.given) (record {
      roster = room.roster;
      shown = subst (λ (l : List Record). AreShown l c.make_book_room.new.book.shown.items) (sym items) (subst (AreShown list) (sym room.shown) c.requires.book.shown);
      pinned = subst (λ (l : List Record). ArePinned l c.make_book_room.new.book.pinned.items) (sym items) (subst (ArePinned list) (sym room.pinned) c.requires.book.pinned);
      next = subst (λ (l : List Record). IsNext l r) (sym items) c.requires.can.next;
      entries = subst (λ (l : List Record). length (entries l) ≤ 20000) (sym items) (entries-few list c.requires.book.indexed.held.legal);
      held = subst (λ (l : List Record). IsHeld (l ++ r ∷ []) (bank_with c.make_book_room.new.book.entries p)) (sym items)
          (subst (λ (es : List Entry). IsHeld (list ++ r ∷ []) (bank_with es p)) (sym room.entries) (c.requires.can.held few));
      change = subst (λ (es : List Entry). MayPut es p) (sym room.entries) c.requires.can.change;
      room = c.in_ok-make_book_room.ensures.room;
      records = c.in_ok-make_book_room.ensures.place;
      numbers = c.in_ok-make_book_room.ensures.number;
      pins = c.in_ok-make_book_room.ensures.pin;
    })

pub append-requires-clause-pin : goal.append-requires-clause-pin
append-requires-clause-pin g c =
    subst (λ (s : Record). IsPin c.make_book_room.new.book.records.items s c.in_ok-pin.pin) (sym c.in_ok-record.ensures.given)
    (subst (λ (l : List Record). IsPin l c.args.record c.in_ok-pin.pin) (sym c.make_book_room.ensures.records) c.in_ok-pin.ensures)

pub returns-in_err-make_book_room-clause-book : goal.returns-in_err-make_book_room-clause-book
returns-in_err-make_book_room-clause-book g c =
    let room = c.make_book_room.ensures in
    room-book c.args.book.now c.make_book_room.new.book c.requires.book room.roster room.records room.shown room.pinned room.entries

pub returns-in_err-record-clause-book : goal.returns-in_err-record-clause-book
returns-in_err-record-clause-book g c =
    let room = c.make_book_room.ensures in
    room-book c.args.book.now c.make_book_room.new.book c.requires.book room.roster room.records room.shown room.pinned room.entries
