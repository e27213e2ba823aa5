use Rattle.std.proofs.Common.{List, ap, ◌∙◌}
use Rattle.qz_terms.specs.History.{attempts}
use Rattle.qz_terms.specs.declared.record.Record.{Record}
use Rattle.qz_book.proofs.book.Book.attempts.Goals as goal

pub returns : goal.returns
returns c = c.attempts.ensures c.self.inside.listing.records.items c.self.invariant.indexed ∙ ap (λ (h : List Record). attempts h c.args.quiz c.args.user) c.self.view_is
