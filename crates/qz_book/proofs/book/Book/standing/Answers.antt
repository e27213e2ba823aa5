use Rattle.std.proofs.Common.{List, ap, ◌∙◌}
use Rattle.qz_terms.specs.History.{mark, state}
use Rattle.qz_terms.specs.declared.record.Record.{Record}
use Rattle.qz_book.proofs.book.Book.standing.Goals as goal

pub returns-clause-state : goal.returns-clause-state
returns-clause-state c = c.standing.ensures.state c.self.inside.listing.records.items c.self.invariant.alive ∙ ap (λ (h : List Record). state h c.args.attempt c.args.slot) c.self.view_is

pub returns-clause-mark : goal.returns-clause-mark
returns-clause-mark c = c.standing.ensures.mark c.self.inside.listing.records.items c.self.invariant.alive ∙ ap (λ (h : List Record). mark h c.args.attempt c.args.slot) c.self.view_is
