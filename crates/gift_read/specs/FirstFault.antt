-- The first rule that a block breaks, in the order in which it is looked for.
use Rattle.std.specs.Prelude.{◌≡◌, ◌≤◌, ℕ, List, [], ◌∷◌, Option, Some, None}
use Rattle.gift_lex.specs.declared.block.Block.{Block}
use Rattle.qz_grading.specs.Questions.{parts}
use Rattle.gift_read.specs.Parts.{body, answer_part, answers, sort_of}
use Rattle.gift_read.specs.Values.{question}
use Rattle.qz_grading.specs.declared.limits.TheConstants.{MOST_PARTS}
use Rattle.gift_read.specs.Faults.{broken_values, flaws}

-- the first of some rules
abbrev pub first_of : List ℕ → Option ℕ
first_of [] = None
first_of (rule ∷ rules) = Some rule

-- The name and the braces of a block are whole, so its flaws are those of the question that it spells, which has no more
-- pieces than it may.
pub record IsWhole (b : Block) : Type 0 where
  pub flaws : flaws b ≡ broken_values (question b) (sort_of (body b.marks)) (answers (answer_part (body b.marks)))
  pub few : parts (question b).kind ≤ MOST_PARTS
