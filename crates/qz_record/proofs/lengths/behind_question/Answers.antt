use Rattle.std.proofs.Common.{◌≡◌, ℕ, List, [], ◌∷◌, length, ap, subst, sym, ◌∙◌, flat_map, sum_by}
use Rattle.qz_grading.specs.Questions.{kind_texts}
use Rattle.qz_grading.specs.Room.{LeftBehind}
use Rattle.qz_record.proofs.TextLengths.{five_behind, five_texts, own_texts}
use Rattle.qz_record.proofs.lengths.behind_question.Goals as goal

pub returns : goal.returns
returns c =
    let q = c.args.question.now in
    let hints : flat_map (λ (t : List ℕ). t ∷ []) c.as_slice.result.now ≡ q.hints = ap (flat_map (λ (t : List ℕ). t ∷ [])) c.as_slice.ensures ∙ own_texts q.hints in
    let last = subst (λ (ts : List (List ℕ)). LeftBehind (sum_by length ts) c.in_ok-left-4.left c.behind_all.result) hints c.behind_all.ensures in
    subst (λ (n : ℕ). LeftBehind n c.args.room c.behind_all.result) (sym (five_texts q.name q.text.text q.general.text (kind_texts q.kind) q.hints))
    (five_behind (sum_by length (q.name ∷ [])) (sum_by length (q.text.text ∷ [])) (sum_by length (q.general.text ∷ [])) (sum_by length (kind_texts q.kind)) (sum_by length q.hints)
    c.args.room c.in_ok-left.left c.in_ok-left-2.left c.in_ok-left-3.left c.in_ok-left-4.left c.behind_all.result
    c.in_ok-left.ensures c.in_ok-left-2.ensures c.in_ok-left-3.ensures c.in_ok-left-4.ensures last)
