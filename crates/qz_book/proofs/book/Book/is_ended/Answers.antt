use Rattle.std.proofs.Common.{List, ap, ◌∙◌}
use Rattle.qz_terms.specs.History.{is_ended}
use Rattle.qz_terms.specs.declared.record.Record.{Record}
use Rattle.qz_book.proofs.book.Book.is_ended.Goals as goal

pub returns : goal.returns
returns c = c.is_ended.ensures c.self.inside.listing.records.items c.self.invariant.alive ∙ ap (λ (h : List Record). is_ended h c.args.attempt) c.self.view_is
