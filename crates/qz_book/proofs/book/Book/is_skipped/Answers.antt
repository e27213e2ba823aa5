use Rattle.std.proofs.Common.{List, ap, ◌∙◌}
use Rattle.qz_terms.specs.History.{is_skipped}
use Rattle.qz_terms.specs.declared.record.Record.{Record}
use Rattle.qz_book.proofs.book.Book.is_skipped.Goals as goal

pub returns : goal.returns
returns c = c.is_skipped.ensures c.self.inside.listing.records.items c.self.invariant.indexed ∙ ap (λ (h : List Record). is_skipped h c.args.job c.args.attempt c.args.slot) c.self.view_is
