use Rattle.std.proofs.Common.{List, ap, ◌∙◌}
use Rattle.qz_index.specs.Orders.{attempt_after}
use Rattle.qz_terms.specs.declared.record.Record.{Record}
use Rattle.qz_book.proofs.book.Book.attempt_after.Goals as goal

pub returns : goal.returns
returns c = c.attempt_after.ensures c.self.inside.listing.records.items c.self.invariant.indexed ∙ ap (λ (h : List Record). attempt_after h c.args.quiz c.args.after) c.self.view_is
