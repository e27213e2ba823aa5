use Rattle.std.proofs.Common.{List, All, sym, ap, subst, option_map, ◌∙◌}
use Rattle.qz_lives.specs.Attempts.{begun_of}
use Rattle.qz_terms.specs.declared.record.Record.{Record}
use Rattle.qz_terms.specs.History.{start}
use Rattle.qz_terms.specs.Kept.{IsKept}
use Rattle.qz_book.proofs.ReadingLemmas.{moment-kept}
use Rattle.qz_book.proofs.book.Book.begun.Goals as goal

pub returns-clause-value : goal.returns-clause-value
returns-clause-value c = c.begun.ensures c.self.inside.listing.records.items c.self.invariant.alive ∙ ap (λ (h : List Record). option_map begun_of (start h c.args.attempt)) c.self.view_is

pub returns-clause-kept : goal.returns-clause-kept
returns-clause-kept c = λ kept. moment-kept c.self.inside.listing.records.items c.args.attempt c.begun.result (c.begun.ensures c.self.inside.listing.records.items c.self.invariant.alive) (subst (All IsKept) (sym c.self.view_is) kept)
