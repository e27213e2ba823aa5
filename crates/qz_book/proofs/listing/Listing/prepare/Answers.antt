use Rattle.std.proofs.Common.{◌∷◌, ◌++◌, [], List, sym, subst}
use Rattle.qz_lives.specs.Changes.{IsLawful}
use Rattle.qz_terms.specs.declared.record.Record.{Record}
use Rattle.qz_book.proofs.Growing.{lawful}
use Rattle.qz_book.proofs.listing.Listing.prepare.Goals as goal

pub grow-requires-clause-lawful : goal.grow-requires-clause-lawful
grow-requires-clause-lawful c =
    subst (λ (l : List Record). IsLawful (l ++ c.args.made.now ∷ [])) (sym c.deref-2.ensures.value)
    (lawful c.args.self.now.records.items c.args.made.now c.requires.grows c.requires.entered.few)
