-- Readings of a list of steps that numbered tries need, with one more step at its end.
use Rattle.std.proofs.Common.{◌≡◌, Bool, true, false, ◌&&◌, List, [], ◌∷◌, ◌++◌, Some, None, refl, ap}
use Rattle.std.proofs.lemmas.Bool.{false_from_ne_true, true_from_ne_false}
use Rattle.qz_grading.specs.declared.question.Question.{Question}
use Rattle.qz_grading.specs.declared.response.Response.{Response}
use Rattle.qz_grading.specs.declared.response.Step.{Step}
use Rattle.qz_grading.specs.Grading.{gradable}
use Rattle.qz_grading.specs.Steps.{last}
use Rattle.qz_grading.specs.Behaviours.{without_last}
use Rattle.qz_tries.specs.Parts.{gradable_last}

-- the last response, where it can be graded
pub gradable_last-none : (q : Question) (s : List Step) → None ≡ gradable_last q s → gradable q (last s) ≡ false
gradable_last-none q s none = false_from_ne_true (gradable q (last s)) (λ can. let h = rw can at none in cc)

pub gradable_last-some : (q : Question) (s : List Step) (r : Response) → Some r ≡ gradable_last q s → (gradable q (last s) ≡ true) × (r ≡ last s)
gradable_last-some q s r some =
    let can : gradable q (last s) ≡ true = true_from_ne_false (gradable q (last s)) (λ cannot. let h = rw cannot at some in cc) in
    let h = rw can at some in
    (can, cc)

without_last-push-cons : (y : Step) (s : List Step) (x : Step) → without_last (s ++ x ∷ []) ≡ s → without_last (y ∷ (s ++ x ∷ [])) ≡ y ∷ s
without_last-push-cons y [] x rest = refl
without_last-push-cons y (z ∷ s) x rest = ap (λ (t : List Step). y ∷ t) rest

pub without_last-push : (s : List Step) (x : Step) → without_last (s ++ x ∷ []) ≡ s
without_last-push [] x = refl
without_last-push (y ∷ s) x = without_last-push-cons y s x (without_last-push s x)

pub and-true : (b : Bool) → (b && true) ≡ b
and-true true = refl
and-true false = refl
