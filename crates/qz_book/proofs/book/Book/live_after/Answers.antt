use Rattle.std.proofs.Common.{List, ap, ◌∙◌}
use Rattle.qz_terms.specs.History.{live_after}
use Rattle.qz_terms.specs.declared.record.Record.{Record}
use Rattle.qz_book.proofs.book.Book.live_after.Goals as goal

pub returns : goal.returns
returns c = c.live_after.ensures c.self.inside.listing.records.items c.self.invariant.alive ∙ ap (λ (h : List Record). live_after h c.args.after) c.self.view_is
