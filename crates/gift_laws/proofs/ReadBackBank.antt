-- Banks, read back question by question.
use Rattle.std.proofs.Common.{◌≡◌, ℕ, ◌≤◌, Bool, true, not, ◌==◌, List, [], ◌∷◌, ◌++◌, map, encode_utf8_all, Result, Ok, refl, sym, ap, ◌∙◌, append_assoc, codes}
use Rattle.std.specs.Char.{encode_utf8}
use Rattle.std.specs.List.{enumerate_from}
use Rattle.std.specs.Str.{chars}
use Rattle.std.proofs.Math.Utf8.{scalars}
use Rattle.std.proofs.lemmas.Str.{encodes-append, chars-encodes, is_utf8-from_IsUtf8}
use Rattle.std.proofs.lemmas.Bool.{and_parts}
use Rattle.std.proofs.lemmas.List.Folds.{list_all-append}
use Rattle.gift_lex.specs.declared.block.Block.{Block}
use Rattle.gift_lex.specs.Blocks as lex
use Rattle.gift_lex.specs.Blocks.{between_feeds, without_order_mark, with_plain_breaks, lines_of, blocks_of}
use Rattle.qz_grading.specs.declared.question.Item.{Item}
use Rattle.qz_grading.specs.declared.question.Question.{Question}
use Rattle.qz_grading.specs.Canonical.{canonical_question, canonical_size}
use Rattle.gift_read.specs.declared.reading.Entry.{Entry}
use Rattle.gift_read.specs.Places.{Marks}
use Rattle.qz_grading.specs.declared.limits.TheConstants.{MOST_TOGETHER}
use Rattle.gift_read.specs.Gift.{Fault, followed, onto, items_of, in_bank, bank_of, reading_of, reading}
use Rattle.gift_laws.specs.Written.{has_no_return}
use Rattle.gift_laws.proofs.ReadBackLines.{IsLine, Line, AreLines, joined, joined_marks, characters_of, between_feeds-lines, gives-block, with_plain_breaks-none}
use Rattle.gift_laws.proofs.ReadBackTold.{IsRead, read-told}

pub scalars-append : (cs ds : List ℕ) → scalars cs ≡ true → scalars ds ≡ true → scalars (cs ++ ds) ≡ true
scalars-append [] ds first second = second
scalars-append (c ∷ cs) ds first second =
    let parts = and_parts _ (scalars cs) first in
    rw (parts.0, scalars-append cs ds parts.1 second) refl

-- characters that a text may have: no carriage return
pub record IsPlainText (text cs : List ℕ) : Type 0 where
  pub is : text ≡ encode_utf8_all cs
  pub scalar : scalars cs ≡ true
  pub no_return : has_no_return cs ≡ true

-- what ends a block
pub feeds_text : IsPlainText (10 ∷ 10 ∷ []) (10 ∷ 10 ∷ [])
unfolding encode_utf8
feeds_text = record { is = refl; scalar = refl; no_return = refl }

pub plain_text-append : (text more cs ds : List ℕ) → IsPlainText text cs → IsPlainText more ds → IsPlainText (text ++ more) (cs ++ ds)
plain_text-append text more cs ds first second = record {
  is = rw (first.is, second.is) (sym (encodes-append cs ds));
  scalar = scalars-append cs ds first.scalar second.scalar;
  no_return = list_all-append (λ c. not (c == 13)) cs ds ∙ rw (first.no_return, second.no_return) refl;
}

-- ---- the text of one question

pub record IsQuestionText (q : Question) : Type 0 where
  pub first : List ℕ
  pub marks : Marks
  pub later : List Line
  pub line : IsLine (58 ∷ first) marks
  pub lines : AreLines later
  pub text : IsPlainText (canonical_question q) (((58 ∷ first) ++ joined later) ++ 10 ∷ 10 ∷ [])
  pub read : (b : Block) → b.marks ≡ marks ++ joined_marks later → IsRead b q
  pub small : canonical_size q ≤ MOST_TOGETHER

-- the blocks of lines that count from a number
abbrev pub blocks_from : ℕ → List (List ℕ) → List Block
blocks_from n ls = map lex.block_of (lex.groups (enumerate_from n ls))

-- ---- the text of items, behind lines that name these as the category

pub record ReadsItems (names : List (List ℕ)) (text : List ℕ) (items : List Item) : Type 0 where
  pub characters : List ℕ
  pub plain : IsPlainText text characters
  pub unmarked : without_order_mark characters ≡ characters
  pub reads : (n : ℕ) → items_of names (blocks_from n (between_feeds characters)) ≡ Ok items

pub reads-none : (names : List (List ℕ)) → ReadsItems names [] []
reads-none names = record { characters = []; plain = record { is = refl; scalar = refl; no_return = refl }; unmarked = refl; reads = λ n. refl }

pub reads-question : (names : List (List ℕ)) (text : List ℕ) (items : List Item) (q : Question) → IsQuestionText q → ReadsItems names text items
    → ReadsItems names (canonical_question q ++ text) (record { category = names; question = q } ∷ items)
reads-question names text items q is later = record {
  characters = (((58 ∷ is.first) ++ joined is.later) ++ 10 ∷ 10 ∷ []) ++ later.characters;
  plain = plain_text-append (canonical_question q) text (((58 ∷ is.first) ++ joined is.later) ++ 10 ∷ 10 ∷ []) later.characters is.text later.plain;
  unmarked = refl;
  reads = λ n.
      let lines : between_feeds ((((58 ∷ is.first) ++ joined is.later) ++ 10 ∷ 10 ∷ []) ++ later.characters) ≡ (58 ∷ is.first) ∷ (characters_of is.later ++ [] ∷ between_feeds later.characters) =
      ap between_feeds (append_assoc ((58 ∷ is.first) ++ joined is.later) (10 ∷ 10 ∷ []) later.characters ∙ append_assoc (58 ∷ is.first) (joined is.later) (10 ∷ 10 ∷ later.characters))
      ∙ between_feeds-lines (58 ∷ is.first) is.later later.characters is.line.feedless is.lines in
      let gives = gives-block (58 ∷ is.first) is.marks is.later n (between_feeds later.characters) is.line refl is.lines in
      ap (λ (ls : List (List ℕ)). items_of names (blocks_from n ls)) lines
      ∙ ap (items_of names) gives.blocks_are
      ∙ ap (λ (t : Result Entry Fault). followed names t (λ names. items_of names (blocks_from gives.number (between_feeds later.characters))))
      (read-told gives.block q (is.read gives.block gives.marks_are) is.small)
      ∙ ap (λ (r : Result (List Item) Fault). onto (record { category = names; question = q }) r) (later.reads gives.number);
}

-- ---- the whole text

pub reading-items : (text : List ℕ) (items : List Item) → ReadsItems (codes "Default" ∷ []) text items → reading text ≡ Ok (record { items = items })
reading-items text items is =
    let cs = is.characters in
    let characters : chars text ≡ cs = ap chars is.plain.is ∙ chars-encodes cs is.plain.scalar in
    let utf8 = is_utf8-from_IsUtf8 text (cs, (is.plain.scalar, sym is.plain.is)) in
    let lines : with_plain_breaks (without_order_mark (chars text)) ≡ cs = ap (λ (t : List ℕ). with_plain_breaks (without_order_mark t)) characters ∙ ap with_plain_breaks is.unmarked ∙ with_plain_breaks-none cs is.plain.no_return in
    ap (λ (b : Bool). reading_of b text) utf8
    ∙ ap (λ (t : List ℕ). bank_of (blocks_from 1 (between_feeds t))) lines
    ∙ ap in_bank (is.reads 1)
