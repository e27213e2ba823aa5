-- Versions of one shape take the same answers.
use Rattle.std.proofs.Common.{◌≡◌, ℕ, Bool, true, not, ◌&&◌, ◌||◌, List, [], ◌∷◌, length, refl, ap, ◌∙◌, arith}
use Rattle.std.specs.Prelude.{◌==◌, nat_le}
use Rattle.std.specs.List.{list_all}
use Rattle.std.proofs.lemmas.Bool.{and_parts}
use Rattle.std.proofs.lemmas.Bool.Decides.{nat_tests}
use Rattle.qz_grading.specs.declared.outcome.Behaviour.{Behaviour}
use Rattle.qz_grading.specs.declared.question.Choice.{Choice}
use Rattle.qz_grading.specs.declared.question.Kind.{Kind}
use Rattle.qz_grading.specs.declared.question.Kind.TheVariants as kind
use Rattle.qz_grading.specs.declared.question.Pair.{Pair}
use Rattle.qz_grading.specs.declared.question.Question.{Question}
use Rattle.qz_grading.specs.declared.response.Answer.{Answer}
use Rattle.qz_grading.specs.declared.response.Answer.TheVariants as answer
use Rattle.qz_grading.specs.declared.response.Step.{Step}
use Rattle.qz_grading.specs.declared.response.Step.TheVariants as step
use Rattle.qz_grading.specs.Grading.{answer_fits, are_places, certainty_fits, counts, is_place, kind_number, shape, stems, answers}
use Rattle.qz_grading.specs.Shapes.{same_shape}
use Rattle.qz_grading.specs.Slots.{is_misfit}
use Rattle.qz_usage.specs.Runs.{has_misfit}

one-alike : (k k' : List Choice) (a : Answer) → length k ≡ length k' → answer_fits (kind.One k) a ≡ answer_fits (kind.One k') a
one-alike k k' answer.Blank same = refl
one-alike k k' (answer.Pick n) same = ap (λ (count : ℕ). is_place count n) same
one-alike k k' (answer.Picks ns) same = refl
one-alike k k' (answer.Match ns) same = refl
one-alike k k' (answer.Words t) same = refl

several-alike : (k k' : List Choice) (a : Answer) → length k ≡ length k' → answer_fits (kind.Several k) a ≡ answer_fits (kind.Several k') a
several-alike k k' answer.Blank same = refl
several-alike k k' (answer.Pick n) same = refl
several-alike k k' (answer.Picks ns) same = ap (λ (count : ℕ). are_places count ns) same
several-alike k k' (answer.Match ns) same = refl
several-alike k k' (answer.Words t) same = refl

matching-alike : (k k' : List Pair) (a : Answer) → length (stems k) ≡ length (stems k') → length (answers k) ≡ length (answers k') → answer_fits (kind.Matching k) a ≡ answer_fits (kind.Matching k') a
matching-alike k k' answer.Blank stem_count answer_count = refl
matching-alike k k' (answer.Pick n) stem_count answer_count = refl
matching-alike k k' (answer.Picks ns) stem_count answer_count = refl
matching-alike k k' (answer.Match ns) stem_count answer_count =
    ap (λ (n : ℕ). (length ns == n) && list_all (λ m. nat_le m (length (answers k))) ns) stem_count
    ∙ ap (λ (n : ℕ). (length ns == length (stems k')) && list_all (λ m. nat_le m n) ns) answer_count
matching-alike k k' (answer.Words t) stem_count answer_count = refl

alike : (k k' : Kind) (a : Answer) → kind_number k ≡ kind_number k' → (counts k).0 ≡ (counts k').0 → (counts k).1 ≡ (counts k').1 → answer_fits k a ≡ answer_fits k' a
alike kind.Description kind.Description a number first second = refl
alike kind.Essay kind.Essay a number first second = refl
alike (kind.TrueFalse r w t) (kind.TrueFalse r' w' t') answer.Blank number first second = refl
alike (kind.TrueFalse r w t) (kind.TrueFalse r' w' t') (answer.Pick n) number first second = refl
alike (kind.TrueFalse r w t) (kind.TrueFalse r' w' t') (answer.Picks ns) number first second = refl
alike (kind.TrueFalse r w t) (kind.TrueFalse r' w' t') (answer.Match ns) number first second = refl
alike (kind.TrueFalse r w t) (kind.TrueFalse r' w' t') (answer.Words x) number first second = refl
alike (kind.One k) (kind.One k') a number first second = one-alike k k' a first
alike (kind.Several k) (kind.Several k') a number first second = several-alike k k' a first
alike (kind.Matching k) (kind.Matching k') a number first second = matching-alike k k' a first second
alike (kind.ShortAnswer k) (kind.ShortAnswer k') answer.Blank number first second = refl
alike (kind.ShortAnswer k) (kind.ShortAnswer k') (answer.Pick n) number first second = refl
alike (kind.ShortAnswer k) (kind.ShortAnswer k') (answer.Picks ns) number first second = refl
alike (kind.ShortAnswer k) (kind.ShortAnswer k') (answer.Match ns) number first second = refl
alike (kind.ShortAnswer k) (kind.ShortAnswer k') (answer.Words x) number first second = refl
alike (kind.Numerical k) (kind.Numerical k') answer.Blank number first second = refl
alike (kind.Numerical k) (kind.Numerical k') (answer.Pick n) number first second = refl
alike (kind.Numerical k) (kind.Numerical k') (answer.Picks ns) number first second = refl
alike (kind.Numerical k) (kind.Numerical k') (answer.Match ns) number first second = refl
alike (kind.Numerical k) (kind.Numerical k') (answer.Words x) number first second = refl
alike k k' a number first second = absurd (omega arith)

equal : (a b : ℕ) → (a == b) ≡ true → a ≡ b
equal a b t = grind (arith, nat_tests)

module _ (q q' : Question) (shapes : same_shape (shape q) (shape q') ≡ true) where
  answers-alike : (a : Answer) → answer_fits q.kind a ≡ answer_fits q'.kind a
  answers-alike a =
      let number = and_parts (kind_number q.kind == kind_number q'.kind) (((counts q.kind).0 == (counts q'.kind).0) && ((counts q.kind).1 == (counts q'.kind).1)) shapes in
      let both = and_parts ((counts q.kind).0 == (counts q'.kind).0) ((counts q.kind).1 == (counts q'.kind).1) number.1 in
      alike q.kind q'.kind a (equal (kind_number q.kind) (kind_number q'.kind) number.0) (equal (counts q.kind).0 (counts q'.kind).0 both.0) (equal (counts q.kind).1 (counts q'.kind).1 both.1)

  misfits-alike : (b : Behaviour) (x : Step) → is_misfit b q x ≡ is_misfit b q' x
  misfits-alike b (step.Save r) = ap (λ (t : Bool). not (t && certainty_fits b r.certainty)) (answers-alike r.answer)
  misfits-alike b (step.Submit r) = ap (λ (t : Bool). not (t && certainty_fits b r.certainty)) (answers-alike r.answer)
  misfits-alike b step.Again = refl
  misfits-alike b step.Finish = refl
  misfits-alike b (step.Mark m max) = refl

  -- the steps that fit one version fit the other
  pub fits-alike : (b : Behaviour) (s : List Step) → has_misfit b q s ≡ has_misfit b q' s
  fits-alike b [] = refl
  fits-alike b (x ∷ s) = ap (λ (t : Bool). t || has_misfit b q s) (misfits-alike b x) ∙ ap (λ (t : Bool). is_misfit b q' x || t) (fits-alike b s)
