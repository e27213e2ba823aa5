use Rattle.std.proofs.Common.{List, ap, ◌∙◌}
use Rattle.qz_terms.specs.History.{total}
use Rattle.qz_terms.specs.declared.record.Record.{Record}
use Rattle.qz_book.proofs.book.Book.total.Goals as goal

pub returns-clause-value : goal.returns-clause-value
returns-clause-value c = c.total.ensures.value c.self.inside.listing.records.items c.self.invariant.alive ∙ ap (λ (h : List Record). total h c.args.attempt) c.self.view_is
