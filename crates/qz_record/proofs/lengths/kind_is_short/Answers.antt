use Rattle.std.proofs.Common.{ℕ, List, [], ◌∷◌, length, ap, sym, ◌∙◌}
use Rattle.std.specs.List.{list_all}
use Rattle.std.specs.Prelude.{nat_le}
use Rattle.qz_grading.specs.declared.question.Kind.{Kind}
use Rattle.qz_grading.specs.declared.question.Num.{Num}
use Rattle.qz_grading.specs.Questions.{are_no_longer, kind_texts}
use Rattle.qz_record.proofs.TextLengths.{list_all_singles}
use Rattle.qz_record.proofs.lengths.kind_is_short.Goals as goal

pub returns-in-Numerical : goal.returns-in-Numerical
returns-in-Numerical c =
    c.all_short-in-Numerical.ensures
    ∙ ap (list_all (λ (a : Num). are_no_longer 65536 (a.feedback.text ∷ []))) c.as_slice-in-Numerical.ensures
    ∙ list_all_singles (λ (t : List ℕ). nat_le (length t) 65536) (λ (a : Num). a.feedback.text) c.in-Numerical.answers
    ∙ ap (λ (k : Kind). are_no_longer 65536 (kind_texts k)) (sym c.in-Numerical.is)
