use Rattle.std.proofs.Common.{List, ap, ◌∙◌}
use Rattle.qz_index.specs.Jobs.{done_in}
use Rattle.qz_terms.specs.declared.record.Record.{Record}
use Rattle.qz_book.proofs.book.Book.done_place.Goals as goal

pub returns : goal.returns
returns c = c.done_place.ensures c.self.inside.listing.records.items c.self.invariant.indexed ∙ ap (λ (h : List Record). done_in h c.args.job) c.self.view_is
