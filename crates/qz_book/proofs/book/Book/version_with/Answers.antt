use Rattle.std.proofs.Common.{◌++◌, ◌∷◌, [], List, ap, ◌∙◌}
use Rattle.qz_terms.specs.declared.record.Record.{Record}
use Rattle.qz_terms.specs.History.{version}
use Rattle.qz_book.proofs.ReadingLemmas.{asked-kept}
use Rattle.qz_book.proofs.book.Book.version_with.Goals as goal

pub returns-clause-kept : goal.returns-clause-kept
returns-clause-kept c = λ kept.
    asked-kept (c.args.self.now ++ c.args.made.now ∷ []) c.args.entry c.args.number c.question.result
    (c.question.ensures
    ∙ ap (λ (l : List Record). version l c.args.entry c.args.number) (c.of.ensures ∙ ap (λ (l : List Record). l ++ c.args.made.now ∷ []) (c.deref.ensures.value ∙ c.self.view_is))) kept
