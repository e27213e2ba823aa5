use Rattle.std.proofs.Common.{◌≡◌, List, subst}
use Rattle.std.specs.Prelude.{IfOk}
use Rattle.qz_terms.specs.declared.record.Record.{Record}
use Rattle.qz_terms.specs.History.{takers}
use Rattle.qz_book.proofs.book.Book.takers.Goals as goal

pub returns : goal.returns
returns c = subst (λ (h : List Record). IfOk c.takers.result (λ found. found.items ≡ takers h c.args.quiz)) c.self.view_is (c.takers.ensures c.self.inside.listing.records.items c.self.invariant.indexed)
