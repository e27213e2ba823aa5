use Rattle.std.proofs.Common.{◌≡◌, ℕ, List, [], ◌∷◌, length, ap, subst, sym, ◌∙◌, flat_map, sum_by}
use Rattle.std.proofs.lemmas.List.Concat.{flat_map_single}
use Rattle.qz_grading.specs.declared.question.Num.{Num}
use Rattle.qz_grading.specs.Questions.{kind_texts}
use Rattle.qz_grading.specs.Room.{LeftBehind}
use Rattle.qz_record.proofs.lengths.behind_kind.Goals as goal

pub returns-in-Numerical : goal.returns-in-Numerical
returns-in-Numerical c =
    let same : flat_map (λ (a : Num). a.feedback.text ∷ []) c.as_slice-in-Numerical.result.now ≡ kind_texts c.args.kind.now =
    ap (flat_map (λ (a : Num). a.feedback.text ∷ [])) c.as_slice-in-Numerical.ensures
    ∙ flat_map_single (λ (a : Num). a.feedback.text) c.in-Numerical.answers
    ∙ ap kind_texts (sym c.in-Numerical.is) in
    subst (λ (ts : List (List ℕ)). LeftBehind (sum_by length ts) c.args.room c.behind_all-in-Numerical.result) same c.behind_all-in-Numerical.ensures
