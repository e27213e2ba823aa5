use Rattle.std.proofs.Common.{◌≡◌, ◌+◌, ◌-◌, ◌<◌, ◌≤◌, ◌^◌, ◌∷◌, ◌++◌, [], List, length, arith, sym, subst}
use Rattle.qz_lives.specs.Changes.{IsLawful}
use Rattle.qz_terms.specs.declared.record.Record.{Record}
use Rattle.qz_terms.specs.History.{place}
use Rattle.qz_book.proofs.Growing.{lawful, place-few}
use Rattle.qz_book.proofs.listing.Listing.follow.Goals as goal

pub overflow_add-place : goal.overflow_add-place
overflow_add-place g c =
    let h = c.args.self.now.records.items in
    let told : c.place-place.result ≡ place h c.args.made.now.owner = c.place-place.ensures h c.requires.listing.indexed in
    let most : place h c.args.made.now.owner ≤ length h = place-few h c.args.made.now.owner in
    let few : length h + 1 < 2 ^ 32 - 1 = c.requires.room.entered.few in
    omega arith

pub put-requires-clause-lawful : goal.put-requires-clause-lawful
put-requires-clause-lawful g c =
    subst (λ (l : List Record). IsLawful (l ++ c.args.made.now ∷ [])) (sym c.deref-2.ensures.value)
    (lawful c.args.self.now.records.items c.args.made.now c.requires.grows c.requires.room.entered.few)
