use Rattle.std.proofs.Common.{List, ap, ◌∙◌}
use Rattle.qz_terms.specs.History.{row}
use Rattle.qz_terms.specs.declared.record.Record.{Record}
use Rattle.qz_book.proofs.book.Book.row.Goals as goal

pub returns : goal.returns
returns c = c.row.ensures c.self.inside.listing.records.items c.self.invariant.alive ∙ ap (λ (h : List Record). row h c.args.quiz c.args.policy.now c.args.user) c.self.view_is
