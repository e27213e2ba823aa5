-- Words and names.
use Rattle.std.proofs.Common.{◌≡◌, ℕ, true, false, eqb, ◌&&◌, List, [], ◌∷◌, length, map, refl, ap, arith}
use Rattle.std.proofs.lemmas.Bool.{ne_eqb}
use Rattle.std.specs.Prelude.{codes, bytes_eq}
use Rattle.gift_read.specs.Places.{Marks, character, characters_at}
use Rattle.gift_read.specs.Texts.{or_question}

-- marks as long as a word, which begin with it, are the word
pub characters_at-whole : (word : List ℕ) (marks : Marks) → length marks ≡ length word → characters_at word marks ≡ bytes_eq (map character marks) word
characters_at-whole [] [] e = refl
characters_at-whole [] (m ∷ marks) e = absurd (omega arith)
characters_at-whole (c ∷ word) [] e = absurd (omega arith)
characters_at-whole (c ∷ word) (m ∷ marks) e = ap (λ b. eqb (character m) c && b) (characters_at-whole word marks (omega arith))
