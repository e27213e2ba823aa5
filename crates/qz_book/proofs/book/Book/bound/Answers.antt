use Rattle.std.proofs.Common.{List, ap, ◌∙◌}
use Rattle.qz_terms.specs.History.{bound}
use Rattle.qz_terms.specs.declared.record.Record.{Record}
use Rattle.qz_book.proofs.book.Book.bound.Goals as goal

pub returns-clause-value : goal.returns-clause-value
returns-clause-value c = c.bound.ensures.value c.self.inside.listing.records.items c.self.invariant.alive ∙ ap (λ (h : List Record). bound h c.args.attempt c.args.slot) c.self.view_is
