use Rattle.std.proofs.Common.{◌≡◌, rules, length, Some, refl, ap, sym, ◌∙◌}
use Rattle.std.specs.Prelude.{option_and_then, option_copied}
use Rattle.std.proofs.lemmas.Option.{slice_get_read}
use Rattle.qz_terms.specs.declared.record.Record.{Record}
use Rattle.qz_terms.specs.Catalog.{asked, quiz_by}
use Rattle.qz_roster.specs.Quizzes.{quiz_at}
use Rattle.qz_roster.proofs.QuizLemmas.{made-by, place-inside}
use Rattle.qz_roster.proofs.quizzes.Quizzes.named.Goals as goal

pub offset_bounds-records-quiz : goal.offset_bounds-records-quiz
offset_bounds-records-quiz c = let inside = place-inside c.args.records.now c.args.self.now c.args.number c.in_ok-quiz.quiz.now c.requires (sym c.quiz.ensures ∙ ap option_copied c.in_ok-quiz.was) in search rules

pub bounds-records-quiz : goal.bounds-records-quiz
bounds-records-quiz c = place-inside c.args.records.now c.args.self.now c.args.number c.in_ok-quiz.quiz.now c.requires (sym c.quiz.ensures ∙ ap option_copied c.in_ok-quiz.was)

pub returns : goal.returns
returns c =
    let there : quiz_at c.args.self.now c.args.number ≡ Some c.in_ok-quiz.quiz.now = sym c.quiz.ensures ∙ ap option_copied c.in_ok-quiz.was in
    let inside = place-inside c.args.records.now c.args.self.now c.args.number c.in_ok-quiz.quiz.now c.requires there in
    let got = slice_get_read c.args.records.now (length c.args.records.now) c.in_ok-quiz.quiz.now.at c.index-records-quiz.result refl inside c.index-records-quiz.is in
    c.quiz_by.ensures ∙ sym (made-by c.args.records.now c.args.self.now c.args.number (Some c.in_ok-quiz.quiz.now) c.requires there ∙ ap (option_and_then (λ (r : Record). quiz_by (asked r))) got)
