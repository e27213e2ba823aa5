use Rattle.std.proofs.Common.{List, ap, ◌∙◌}
use Rattle.qz_terms.specs.History.{floor}
use Rattle.qz_terms.specs.declared.record.Record.{Record}
use Rattle.qz_book.proofs.book.Book.floor.Goals as goal

pub returns : goal.returns
returns c = c.floor.ensures c.self.inside.listing.records.items c.self.invariant.indexed ∙ ap (λ (h : List Record). floor h c.args.quiz) c.self.view_is
