use Rattle.std.proofs.Common.{List, ap, ◌∙◌}
use Rattle.qz_terms.specs.History.{next_attempt}
use Rattle.qz_terms.specs.declared.record.Record.{Record}
use Rattle.qz_book.proofs.book.Book.next_number.Goals as goal

pub returns : goal.returns
returns c = c.next_number.ensures c.self.inside.listing.records.items c.self.invariant.indexed ∙ ap (λ (h : List Record). (next_attempt h c.args.user).nth) c.self.view_is
