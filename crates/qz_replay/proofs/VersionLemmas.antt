-- What a version of a question keeps.
use Rattle.std.proofs.Common.{◌≡◌, ℕ, zero, suc, ◌≤◌, List, [], ◌++◌, ◌+◌, ℤ, length, replicate, refl, arith}
use Rattle.std.specs.Prelude.{IsTrue, sum_by}
use Rattle.std.proofs.lemmas.List.{length-replicate}
use Rattle.std.proofs.lemmas.List.Folds.{sum_by-replicate}
use Rattle.std.proofs.lemmas.List.Sums.{sum_by-append}
use Rattle.qz_decimal.specs.Reading.{IsWrittenFraction}
use Rattle.qz_grading.specs.declared.question.Question.{Question}
use Rattle.qz_grading.specs.Questions.{IsQuestion, are_no_longer, texts}
use Rattle.qz_replay.specs.Replay.{as_version}

empty-hints : (n : ℕ) → IsTrue (are_no_longer 4096 (replicate n []))
empty-hints zero = refl
empty-hints (suc n) = empty-hints n

-- empty hints make no question longer
no-longer : (q : Question) (hints : ℕ) → IsQuestion q → sum_by length (texts q ++ replicate hints []) ≤ 262144
no-longer q hints is =
    let bare : sum_by length (texts q ++ replicate hints []) ≡ sum_by length (texts q) + sum_by length (replicate hints []) = sum_by-append {X = List ℕ} length (texts q) (replicate hints []) in
    let whole : sum_by length (texts q ++ q.hints) ≡ sum_by length (texts q) + sum_by length q.hints = sum_by-append {X = List ℕ} length (texts q) q.hints in
    omega (arith, bare, whole, sum_by-replicate {X = List ℕ} length hints [], is.together)

pub version-is-question : (q : Question) (penalty : ℤ) (hints : ℕ) → IsQuestion q → IsWrittenFraction penalty → hints ≤ 20 → IsQuestion (as_version penalty hints q)
version-is-question q penalty hints is written few = record {
  kind = is.kind;
  penalty = written;
  lengths = is.lengths;
  few_hints = omega (arith, length-replicate {A = List ℕ} hints []);
  hints = empty-hints hints;
  together = no-longer q hints is;
}
