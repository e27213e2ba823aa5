-- Weights and numbers.
use Rattle.std.proofs.Common.{◌≡◌, false, eqb, [], ◌∷◌, length, drop, refl}
use Rattle.std.specs.Prelude.{pos}
use Rattle.qz_grading.specs.declared.question.Extent.TheVariants as extent
use Rattle.qz_grading.specs.declared.question.Format.{Format}
use Rattle.gift_read.specs.Texts.{rich_of}
use Rattle.gift_read.specs.Places.{Marks}
use Rattle.gift_read.specs.Values.{other_of}

-- feedback for every other number makes one answer
pub other_of-some : (f : Format) (marks : Marks) → false ≡ eqb (length marks) 0 → other_of f marks ≡ record { weight = pos 0; extent = extent.Any; feedback = rich_of f (drop 2 marks) } ∷ []
other_of-some f [] some = cc
other_of-some f (m ∷ marks) some = refl
