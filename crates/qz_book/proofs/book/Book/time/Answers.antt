use Rattle.std.proofs.Common.{List, ap, ◌∙◌}
use Rattle.qz_terms.specs.History.{time}
use Rattle.qz_terms.specs.declared.record.Record.{Record}
use Rattle.qz_book.proofs.book.Book.time.Goals as goal

pub returns : goal.returns
returns c = c.time.ensures c.self.inside.listing.records.items c.self.invariant.indexed ∙ ap (λ (h : List Record). time h c.args.user c.args.now) c.self.view_is
