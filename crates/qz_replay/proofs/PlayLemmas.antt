-- Versions of one shape behave alike.
use Rattle.std.proofs.Common.{◌≡◌, ℕ, true, ◌&&◌, refl, arith}
use Rattle.std.specs.Prelude.{◌==◌}
use Rattle.std.proofs.lemmas.Bool.{and_parts}
use Rattle.std.proofs.lemmas.Bool.Decides.{nat_tests}
use Rattle.qz_grading.specs.declared.outcome.Behaviour.{Behaviour}
use Rattle.qz_grading.specs.declared.question.Kind.{Kind}
use Rattle.qz_grading.specs.declared.question.Kind.TheVariants as kind
use Rattle.qz_grading.specs.declared.question.Question.{Question}
use Rattle.qz_grading.specs.Behaviours.{behaviour_for}
use Rattle.qz_grading.specs.Grading.{counts, kind_number, shape}
use Rattle.qz_grading.specs.Shapes.{same_shape}

alike : (k k' : Kind) (b : Behaviour) → kind_number k ≡ kind_number k' → behaviour_for k b ≡ behaviour_for k' b
alike kind.Description kind.Description b number = refl
alike kind.Essay kind.Essay b number = refl
alike (kind.TrueFalse r w t) (kind.TrueFalse r' w' t') b number = refl
alike (kind.One k) (kind.One k') b number = refl
alike (kind.Several k) (kind.Several k') b number = refl
alike (kind.Matching k) (kind.Matching k') b number = refl
alike (kind.ShortAnswer k) (kind.ShortAnswer k') b number = refl
alike (kind.Numerical k) (kind.Numerical k') b number = refl
alike k k' b number = absurd (omega arith)

equal : (a b : ℕ) → (a == b) ≡ true → a ≡ b
equal a b t = grind (arith, nat_tests)

pub behaves-alike : (q q' : Question) (b : Behaviour) → same_shape (shape q) (shape q') ≡ true → behaviour_for q.kind b ≡ behaviour_for q'.kind b
behaves-alike q q' b shapes =
    let number = and_parts (kind_number q.kind == kind_number q'.kind) (((counts q.kind).0 == (counts q'.kind).0) && ((counts q.kind).1 == (counts q'.kind).1)) shapes in
    alike q.kind q'.kind b (equal (kind_number q.kind) (kind_number q'.kind) number.0)
