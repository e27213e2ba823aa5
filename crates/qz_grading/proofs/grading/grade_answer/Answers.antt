use Rattle.std.proofs.Common.{◌≡◌, ◌≤◌, true, List, ℕ, length, ap, ◌∙◌, arith}
use Rattle.qz_grading.specs.declared.question.Pair.{Pair}
use Rattle.qz_grading.specs.declared.question.Kind.TheVariants as kind
use Rattle.qz_grading.specs.declared.response.Answer.TheVariants as answer
use Rattle.qz_grading.specs.Grading.{are_places, grade_answer}
use Rattle.qz_grading.proofs.WeightLemmas.{few_places}
use Rattle.qz_grading.proofs.grading.grade_answer.Goals as goal

pub weight_of_picked-requires-clause-few : goal.weight_of_picked-requires-clause-few
weight_of_picked-requires-clause-few c =
    let picked : are_places (length c.in-Several-Picks.choices) c.in-Several-Picks.places ≡ true = rw (c.in-Several-Picks.is-0, c.in-Several-Picks.is-1) at c.requires.fits in
    let few : length c.in-Several-Picks.choices ≤ 64 = rw c.in-Several-Picks.is-0 at c.requires.few in
    omega (arith, few_places (length c.in-Several-Picks.choices) c.in-Several-Picks.places picked, ap length c.as_slice-in-Several-Picks-2.ensures)

pub returns-in-Matching-Match-clause-value : goal.returns-in-Matching-Match-clause-value
returns-in-Matching-Match-clause-value c =
    rw (c.in-Matching-Match.is-0, c.in-Matching-Match.is-1) (
    c.share_of_right.ensures.value
    ∙ ap (λ (pairs : List Pair). grade_answer (kind.Matching pairs) (answer.Match c.as_slice-in-Matching-Match-2.result.now)) c.as_slice-in-Matching-Match.ensures
    ∙ ap (λ (chosen : List ℕ). grade_answer (kind.Matching c.in-Matching-Match.pairs) (answer.Match chosen)) c.as_slice-in-Matching-Match-2.ensures)
