use Rattle.std.proofs.Common.{List, ap, ◌∙◌}
use Rattle.qz_terms.specs.History.{ended_at}
use Rattle.qz_terms.specs.declared.record.Record.{Record}
use Rattle.qz_book.proofs.book.Book.ended_at.Goals as goal

pub returns : goal.returns
returns c = c.ended_at.ensures c.self.inside.listing.records.items c.self.invariant.alive ∙ ap (λ (h : List Record). ended_at h c.args.attempt) c.self.view_is
