use Rattle.std.proofs.Common.{◌≡◌, List, Option, Some, None, sym, ap, ◌∙◌}
use Rattle.std.specs.Option.{option_or}
use Rattle.qz_grading.specs.declared.question.Question.{Question}
use Rattle.qz_terms.specs.declared.record.Record.{Record}
use Rattle.qz_terms.specs.History.{learns, version}
use Rattle.qz_terms.proofs.Walks.{first_of-push}
use Rattle.qz_book.proofs.Placing.{version-more}
use Rattle.qz_book.proofs.known.Known.question.Goals as goal

pub returns-in-Some : goal.returns-in-Some
returns-in-Some c =
    let h = c.self.inside.records.now in
    let told : version h c.args.entry c.args.number ≡ Some c.in-Some.question.now = sym (c.in-Some.ensures.value c.self.invariant) in
    sym (version-more h c.self.inside.made.now c.args.entry c.args.number c.in-Some.question.now told) ∙ ap (λ (l : List Record). version l c.args.entry c.args.number) c.self.view_is

pub returns-in-None : goal.returns-in-None
returns-in-None c =
    let h = c.self.inside.records.now in
    let none : version h c.args.entry c.args.number ≡ None = sym (c.in-None.ensures.value c.self.invariant) in
    c.learns.ensures
    ∙ sym (first_of-push (learns c.args.entry c.args.number) h c.self.inside.made.now ∙ ap (λ (o : Option Question). option_or o (learns c.args.entry c.args.number c.self.inside.made.now)) none)
    ∙ ap (λ (l : List Record). version l c.args.entry c.args.number) c.self.view_is
