use Rattle.std.proofs.Common.{List, ap, ◌∙◌}
use Rattle.qz_terms.specs.History.{slot_count}
use Rattle.qz_terms.specs.declared.record.Record.{Record}
use Rattle.qz_book.proofs.book.Book.slot_count.Goals as goal

pub returns-clause-value : goal.returns-clause-value
returns-clause-value c = c.slot_count.ensures.value c.self.inside.listing.records.items c.self.invariant.alive ∙ ap (λ (h : List Record). slot_count h c.args.attempt) c.self.view_is

pub returns-clause-few : goal.returns-clause-few
returns-clause-few c = c.slot_count.ensures.few c.self.inside.listing.records.items c.self.invariant.alive
