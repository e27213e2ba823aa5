-- The lines of written questions, and the blocks that they are.
use Rattle.std.proofs.Common.{◌≡◌, ℕ, Bool, true, false, not, ◌==◌, List, [], ◌∷◌, ◌++◌, map, flat_map, refl, ap, ◌∙◌, append_assoc}
use Rattle.std.specs.List.{list_all, enumerate_from}
use Rattle.std.proofs.lemmas.Bool.{and_parts, not-true}
use Rattle.gift_lex.specs.declared.block.Piece.TheVariants.{Plain}
use Rattle.gift_lex.specs.Blocks as lex
use Rattle.gift_lex.specs.Blocks.{between_feeds, with_plain_breaks, marks_of}
use Rattle.gift_lex.proofs.OneBlock.{Gives, is_inked, further_marks, gives-lines}
use Rattle.gift_read.specs.Places.{Marks}
use Rattle.gift_laws.specs.Written.{has_no_return}
use Rattle.gift_laws.proofs.ReadBackMarks.{Spells, Spells-marks}

-- ---- lines

abbrev pub is_feedless : List ℕ → Bool
is_feedless cs = list_all (λ c. not (c == 10)) cs

-- a line and its marks, which is neither blank nor a comment
pub record IsLine (cs : List ℕ) (marks : Marks) : Type 0 where
  pub feedless : is_feedless cs ≡ true
  pub spells : Spells cs marks
  pub inked : lex.is_blank_line cs ≡ false
  pub no_comment : lex.is_comment cs ≡ false

abbrev pub Line : Type 0
Line = List ℕ × Marks

abbrev pub AreLines : List Line → Type 0
AreLines [] = Unit {0}
AreLines (l ∷ ls) = IsLine l.0 l.1 × AreLines ls

-- further lines, each behind a line feed
abbrev pub joined : List Line → List ℕ
joined ls = flat_map (λ (l : Line). 10 ∷ l.0) ls

abbrev pub joined_marks : List Line → Marks
joined_marks ls = flat_map (λ (l : Line). Plain 10 ∷ l.1) ls

abbrev pub characters_of : List Line → List (List ℕ)
characters_of ls = map (λ (l : Line). l.0) ls

between_feeds-first : (cs later : List ℕ) → is_feedless cs ≡ true → between_feeds (cs ++ 10 ∷ later) ≡ cs ∷ between_feeds later
between_feeds-first [] later none = refl
between_feeds-first (c ∷ cs) later none =
    let parts = and_parts (not (c == 10)) (is_feedless cs) none in
    rw (not-true (c == 10) parts.0, between_feeds-first cs later parts.1) refl

-- with two line feeds behind them
pub between_feeds-lines : (cs : List ℕ) (ls : List Line) (later : List ℕ) → is_feedless cs ≡ true → AreLines ls
    → between_feeds (cs ++ (joined ls ++ 10 ∷ 10 ∷ later)) ≡ cs ∷ (characters_of ls ++ [] ∷ between_feeds later)
between_feeds-lines cs [] later none lines = between_feeds-first cs (10 ∷ later) none
between_feeds-lines cs (l ∷ ls) later none lines =
    let behind = between_feeds-lines l.0 ls later lines.0.feedless lines.1 in
    ap (λ (t : List ℕ). between_feeds (cs ++ 10 ∷ t)) (append_assoc l.0 (joined ls) (10 ∷ 10 ∷ later))
    ∙ between_feeds-first cs (l.0 ++ (joined ls ++ 10 ∷ 10 ∷ later)) none
    ∙ ap (λ (t : List (List ℕ)). cs ∷ t) behind

-- ---- a block

are_inked : (ls : List Line) → AreLines ls → list_all is_inked (characters_of ls) ≡ true
are_inked [] lines = refl
are_inked (l ∷ ls) lines = rw (lines.0.inked, lines.0.no_comment, are_inked ls lines.1) refl

further_marks-lines : (ls : List Line) → AreLines ls → further_marks (characters_of ls) ≡ joined_marks ls
further_marks-lines [] lines = refl
further_marks-lines (l ∷ ls) lines = rw (Spells-marks l.0 l.1 lines.0.spells, further_marks-lines ls lines.1) refl

-- the first line doesn't name a category
pub gives-block : (cs : List ℕ) (marks : Marks) (ls : List Line) (n : ℕ) (rest : List (List ℕ)) → IsLine cs marks → lex.is_category cs ≡ false → AreLines ls
    → Gives (map lex.block_of (lex.groups (enumerate_from n (cs ∷ (characters_of ls ++ [] ∷ rest))))) (marks ++ joined_marks ls) rest
gives-block cs marks ls n rest line no_category lines =
    let inked : is_inked cs ≡ true = rw (line.inked, line.no_comment) refl in
    let gives = gives-lines cs (characters_of ls) n rest inked no_category (are_inked ls lines) in
    record {
      block = gives.block;
      number = gives.number;
      marks_are = gives.marks_are ∙ rw (Spells-marks cs marks line.spells, further_marks-lines ls lines) refl;
      blocks_are = gives.blocks_are;
    }

-- ---- breaks

pub with_plain_breaks-none : (cs : List ℕ) → has_no_return cs ≡ true → with_plain_breaks cs ≡ cs
with_plain_breaks-none [] none = refl
with_plain_breaks-none (c ∷ []) none = let parts = and_parts (not (c == 13)) true none in rw (not-true (c == 13) parts.0) refl
with_plain_breaks-none (c ∷ d ∷ cs) none =
    let parts = and_parts (not (c == 13)) (has_no_return (d ∷ cs)) none in
    let other : (c == 13) ≡ false = not-true (c == 13) parts.0 in
    let later = with_plain_breaks-none (d ∷ cs) parts.1 in
    rw other (ap (λ (t : List ℕ). c ∷ t) later)
