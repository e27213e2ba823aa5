use Rattle.std.proofs.Common.{List, All, sym, ap, subst, ◌∙◌}
use Rattle.qz_index.specs.Indexed.{IsIndexed}
use Rattle.qz_terms.specs.declared.record.Record.{Record}
use Rattle.qz_terms.specs.History.{version}
use Rattle.qz_terms.specs.Kept.{IsKept}
use Rattle.qz_book.proofs.book.Book.version.Goals as goal

pub returns-clause-value : goal.returns-clause-value
returns-clause-value c =
    c.version.ensures.value (subst (IsIndexed c.self.inside.listing.index) (sym c.deref.ensures.value) c.self.invariant.indexed)
    ∙ ap (λ (h : List Record). version h c.args.entry c.args.number) (c.deref.ensures.value ∙ c.self.view_is)

pub returns-clause-kept : goal.returns-clause-kept
returns-clause-kept c = λ kept. c.version.ensures.kept (subst (All IsKept) (sym (c.deref.ensures.value ∙ c.self.view_is)) kept)
