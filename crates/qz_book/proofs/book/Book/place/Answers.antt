use Rattle.std.proofs.Common.{List, ap, ◌∙◌}
use Rattle.qz_terms.specs.History.{place}
use Rattle.qz_terms.specs.declared.record.Record.{Record}
use Rattle.qz_book.proofs.book.Book.place.Goals as goal

pub returns : goal.returns
returns c = c.place.ensures c.self.inside.listing.records.items c.self.invariant.indexed ∙ ap (λ (h : List Record). place h c.args.user) c.self.view_is
