-- Lines that are one block, and the blocks of what follows them.
use Rattle.std.proofs.Common.{◌≡◌, ℕ, ◌+◌, Bool, true, false, not, ◌&&◌, List, [], ◌∷◌, ◌++◌, map, flat_map, Some, None, refl, sym, ap, ◌∙◌, append_assoc, append-nil}
use Rattle.std.specs.List.{list_all, enumerate_from}
use Rattle.std.proofs.lemmas.Bool.{and_parts, not-true}
use Rattle.gift_lex.specs.declared.block.Block.{Block}
use Rattle.gift_lex.specs.declared.block.Piece.{Piece}
use Rattle.gift_lex.specs.declared.block.Piece.TheVariants.{Plain}
use Rattle.gift_lex.specs.declared.gathering.Started.{Started}
use Rattle.gift_lex.specs.Blocks.{is_blank_line, is_comment, is_category, marks_of, line_marks, block_of, groups}
use Rattle.gift_lex.specs.Gathering.{gathered, grown}
use Rattle.gift_lex.proofs.GatherLemmas.{gathered-groups}

-- a block with these marks, and those of the lines behind it
pub record Gives (blocks : List Block) (marks : List Piece) (rest : List (List ℕ)) : Type 0 where
  pub block : Block
  pub number : ℕ
  pub marks_are : block.marks ≡ marks
  pub blocks_are : blocks ≡ block ∷ map block_of (groups (enumerate_from number rest))

-- a line that is neither blank nor a comment
abbrev pub is_inked : List ℕ → Bool
is_inked cs = not (is_blank_line cs) && not (is_comment cs)

abbrev pub further_marks : List (List ℕ) → List Piece
further_marks ls = flat_map (λ (cs : List ℕ). Plain 10 ∷ marks_of cs) ls

line_marks-inked : (n : ℕ) (cs : List ℕ) → is_comment cs ≡ false → line_marks (n, cs) ≡ marks_of cs
line_marks-inked n cs text = rw text refl

gathered-more : (s : Started) (ls : List (List ℕ)) (n : ℕ) (rest : List (List ℕ)) → s.only_comments ≡ false → list_all is_inked ls ≡ true
    → Gives (gathered (Some s) (enumerate_from n (ls ++ [] ∷ rest))) (s.marks ++ further_marks ls) rest
gathered-more s [] n rest text inked = record {
  block = record { line = s.line; last_line = s.last_line; marks = s.marks };
  number = n + 1;
  marks_are = sym (append-nil s.marks);
  blocks_are = rw text (ap (λ (bs : List Block). record { line = s.line; last_line = s.last_line; marks = s.marks } ∷ bs) (gathered-groups (enumerate_from (n + 1) rest)));
}
gathered-more s (l ∷ ls) n rest text inked =
    let parts = and_parts (is_inked l) (list_all is_inked ls) inked in
    let line = and_parts (not (is_blank_line l)) (not (is_comment l)) parts.0 in
    let s2 : Started = grown (Some s) (n, l) in
    let still : s2.only_comments ≡ false = rw text refl in
    let later = gathered-more s2 ls (n + 1) rest still parts.1 in
    let here = line_marks-inked n l (not-true (is_comment l) line.1) in
    let goes : gathered (Some s) (enumerate_from n ((l ∷ ls) ++ [] ∷ rest)) ≡ gathered (Some s2) (enumerate_from (n + 1) (ls ++ [] ∷ rest)) =
    rw (not-true (is_blank_line l) line.0, text) refl in
    record {
      block = later.block;
      number = later.number;
      marks_are = later.marks_are ∙ ap (λ (m : List Piece). ((s.marks ++ (Plain 10 ∷ [])) ++ m) ++ further_marks ls) here ∙ simp append_assoc;
      blocks_are = goes ∙ later.blocks_are;
    }

-- lines up to a blank one, where the first names no category
pub gives-lines : (cs : List ℕ) (ls : List (List ℕ)) (n : ℕ) (rest : List (List ℕ)) → is_inked cs ≡ true → is_category cs ≡ false → list_all is_inked ls ≡ true
    → Gives (map block_of (groups (enumerate_from n (cs ∷ (ls ++ [] ∷ rest))))) (marks_of cs ++ further_marks ls) rest
gives-lines cs ls n rest inked no_category also =
    let line = and_parts (not (is_blank_line cs)) (not (is_comment cs)) inked in
    let no_comment = not-true (is_comment cs) line.1 in
    let s : Started = grown None (n, cs) in
    let text : s.only_comments ≡ false = rw no_comment refl in
    let later = gathered-more s ls (n + 1) rest text also in
    let goes : gathered None (enumerate_from n (cs ∷ (ls ++ [] ∷ rest))) ≡ gathered (Some s) (enumerate_from (n + 1) (ls ++ [] ∷ rest)) =
    rw (not-true (is_blank_line cs) line.0, no_category) refl in
    record {
      block = later.block;
      number = later.number;
      marks_are = later.marks_are ∙ ap (λ (m : List Piece). m ++ further_marks ls) (line_marks-inked n cs no_comment);
      blocks_are = sym (gathered-groups (enumerate_from n (cs ∷ (ls ++ [] ∷ rest)))) ∙ goes ∙ later.blocks_are;
    }

-- a line that names a category, and a blank one
pub gives-category : (cs : List ℕ) (n : ℕ) (rest : List (List ℕ)) → is_inked cs ≡ true → is_category cs ≡ true
    → Gives (map block_of (groups (enumerate_from n (cs ∷ [] ∷ rest)))) (marks_of cs) rest
gives-category cs n rest inked category =
    let line = and_parts (not (is_blank_line cs)) (not (is_comment cs)) inked in
    let no_comment = not-true (is_comment cs) line.1 in
    let s : Started = grown None (n, cs) in
    let text : s.only_comments ≡ false = rw no_comment refl in
    let block : Block = record { line = s.line; last_line = s.last_line; marks = s.marks } in
    let goes : gathered None (enumerate_from n (cs ∷ [] ∷ rest)) ≡ block ∷ gathered None (enumerate_from (n + 1 + 1) rest) =
    rw (not-true (is_blank_line cs) line.0, category, no_comment) refl in
    record {
      block = block;
      number = n + 1 + 1;
      marks_are = line_marks-inked n cs no_comment;
      blocks_are = sym (gathered-groups (enumerate_from n (cs ∷ [] ∷ rest))) ∙ goes ∙ ap (λ (bs : List Block). block ∷ bs) (gathered-groups (enumerate_from (n + 1 + 1) rest));
    }
