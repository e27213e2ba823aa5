-- The marks of the blocks of a text.
use Rattle.std.proofs.Common.{◌≡◌, ℕ, Bool, true, false, cond, not, ◌&&◌, ◌||◌, ◌==◌, List, [], ◌∷◌, ◌++◌, length, drop, map, codes, refl, sym, ap, ◌∙◌, subst, nat_eq, inl, inr}
use Rattle.std.specs.List.{list_all, flat_map, join_by, starts_with}
use Rattle.std.specs.Str.{IsUtf8}
use Rattle.std.proofs.lemmas.Bool.{and_parts, and_from, or_parts, or_cases, cond_both, not-true, both_ways, eqb-true, eqb-false, ne_eqb}
use Rattle.std.proofs.lemmas.List.Folds.{list_all-append}
use Rattle.gift_lex.specs.declared.block.Block.{Block}
use Rattle.gift_lex.specs.declared.block.Piece.{Piece}
use Rattle.gift_lex.specs.declared.block.Piece.TheVariants.{Escaped, Sign, Plain}
use Rattle.gift_lex.specs.Blocks as lex
use Rattle.gift_lex.specs.Blocks.{line_feed, Line, is_gap, unindented, is_blank_line, is_comment, groups, lines_of, marks_of, single, block_of, blocks_of}
use Rattle.gift_read.specs.Places.{Marks, character, signs_at, characters_at}
use Rattle.gift_read.specs.Category.{begins_line, line_marks, is_category}
use Rattle.gift_laws.specs.Written.{Each}
use Rattle.gift_laws.proofs.ReadBackMarks.{single-character, marks_of-single}
use Rattle.gift_laws.proofs.ListLemmas.{list_all-implies, flat_map-kept}
use Rattle.gift_laws.proofs.ReadWrittenMarks.{all-kept, kept-from, kept-drop}
use Rattle.gift_laws.proofs.ReadWrittenTexts.{is_good, is_good_mark, IsGood}
use Rattle.gift_laws.proofs.ReadWrittenLines.{is_inner, is_line, is_closed, is_group, groups-are}

-- ---- marks of a line

-- a mark that is no line feed, unless that is escaped
abbrev pub is_feedless : Piece → Bool
is_feedless (Escaped c) = true
is_feedless (Sign c) = not (c == line_feed)
is_feedless (Plain c) = not (c == line_feed)

-- both tests of marks
abbrev pub is_inner_mark : Piece → Bool
is_inner_mark m = is_good_mark m && is_feedless m

single-inner : (c : ℕ) → is_inner c ≡ true → is_inner_mark (single c) ≡ true
single-inner c is = cond_both (lex.is_sign c) (Sign c) (Plain c) (λ (m : Piece). is_inner_mark m ≡ true) (λ e. is) (λ e. is)

escaped-inner : (c : ℕ) → is_inner c ≡ true → is_inner_mark (Escaped (lex.escaped c)) ≡ true
escaped-inner c is =
    let good = (and_parts (is_good c) (not (c == line_feed)) is).0 in
    cond_both (c == 110) 10 c (λ (d : ℕ). is_inner_mark (Escaped d) ≡ true) (λ e. refl) (λ e. and_from _ _ good refl)

marks_of-inner : (cs : List ℕ) → list_all is_inner cs ≡ true → list_all is_inner_mark (marks_of cs) ≡ true
marks_of-inner [] all = refl
marks_of-inner (c ∷ []) all = and_from _ _ (single-inner c (and_parts (is_inner c) true all).0) refl
marks_of-inner (c ∷ d ∷ cs) all =
    let parts = and_parts (is_inner c) (list_all is_inner (d ∷ cs)) all in
    let later = and_parts (is_inner d) (list_all is_inner cs) parts.1 in
    let pair = marks_of-inner cs later.1 in
    let one = marks_of-inner (d ∷ cs) parts.1 in
    cond_both (c == 92 && lex.is_escape d) (Escaped (lex.escaped d) ∷ marks_of cs) (single c ∷ marks_of (d ∷ cs)) (λ (t : Marks). list_all is_inner_mark t ≡ true)
    (λ e. and_from _ _ (escaped-inner d later.0) pair) (λ e. and_from _ _ (single-inner c parts.0) one)

-- ---- marks of a block

abbrev joined : List Line → Marks
joined lines = join_by lex.line_marks (Plain 10 ∷ []) lines

abbrev further : List Line → Marks
further lines = flat_map (λ (line : Line). (Plain 10 ∷ []) ++ lex.line_marks line) lines

line-inner : (line : Line) → is_line line ≡ true → list_all is_inner_mark (lex.line_marks line) ≡ true
line-inner line is =
    let inner = (and_parts (list_all is_inner line.1) (not (is_blank_line line.1)) is).0 in
    cond_both (is_comment line.1) (Plain 32 ∷ []) (marks_of line.1) (λ (t : Marks). list_all is_inner_mark t ≡ true) (λ e. refl) (λ e. marks_of-inner line.1 inner)

line-good : (line : Line) → is_line line ≡ true → list_all is_good_mark (lex.line_marks line) ≡ true
line-good line is = list_all-implies is_inner_mark is_good_mark (λ m inner. (and_parts (is_good_mark m) (is_feedless m) inner).0) (lex.line_marks line) (line-inner line is)

line-feedless : (line : Line) → is_line line ≡ true → list_all is_feedless (lex.line_marks line) ≡ true
line-feedless line is = list_all-implies is_inner_mark is_feedless (λ m inner. (and_parts (is_good_mark m) (is_feedless m) inner).1) (lex.line_marks line) (line-inner line is)

joined-good : (lines : List Line) → list_all is_line lines ≡ true → list_all is_good_mark (joined lines) ≡ true
joined-good [] all = refl
joined-good (line ∷ lines) all =
    let parts = and_parts (is_line line) (list_all is_line lines) all in
    let behind = flat_map-kept is_line is_good_mark (λ (line : Line). (Plain 10 ∷ []) ++ lex.line_marks line) line-good lines parts.1 in
    list_all-append is_good_mark (lex.line_marks line) (further lines) ∙ and_from _ _ (line-good line parts.0) behind

-- ---- what a category line begins with

-- nothing, or a line feed before what follows
abbrev ends_line : Marks → Bool
ends_line [] = true
ends_line (Escaped c ∷ marks) = false
ends_line (Sign c ∷ marks) = false
ends_line (Plain c ∷ marks) = c == 10

-- a character that is neither a line feed nor written by an escape pair
abbrev is_letter : ℕ → Bool
is_letter c = not (c == 10) && not (lex.is_sign c || c == 92)

escaped-other : (w d : ℕ) → is_letter w ≡ true → lex.is_escape d ≡ true → (lex.escaped d == w) ≡ false
escaped-other w d letter escape = ne_eqb (lex.escaped d) w (λ same. go (d == 110) refl same)
  where
    parts : (not (w == 10) ≡ true) × (not (lex.is_sign w || w == 92) ≡ true)
    parts = and_parts (not (w == 10)) (not (lex.is_sign w || w == 92)) letter

    go : (b : Bool) → (d == 110) ≡ b → cond b 10 d ≡ w → ⊥
    go true e same = eqb-false w 10 (not-true (w == 10) parts.0) (sym same)
    go false e same = elim (or_cases (lex.is_sign d || d == 92) (d == 110) escape) [
      | inl sign ↦ let other = not-true (lex.is_sign w || w == 92) parts.1 in both_ways (lex.is_sign w || w == 92) other (subst (λ (c : ℕ). (lex.is_sign c || c == 92) ≡ true) same sign)
      | inr n ↦ both_ways (d == 110) e n
    ]

-- no letter stands where a line ends
ended-other : (w : ℕ) (word : List ℕ) (tail : Marks) → is_letter w ≡ true → ends_line tail ≡ true → characters_at (w ∷ word) tail ≡ true → ⊥
ended-other w word [] letter ends is = cc
ended-other w word (Escaped c ∷ tail) letter ends is = cc
ended-other w word (Sign c ∷ tail) letter ends is = cc
ended-other w word (Plain c ∷ tail) letter ends is =
    let same : c ≡ w = eqb-true c w (and_parts (c == w) (characters_at word tail) is).0 in
    let other = not-true (w == 10) (and_parts (not (w == 10)) (not (lex.is_sign w || w == 92)) letter).0 in
    both_ways (w == 10) other (subst (λ (d : ℕ). (d == 10) ≡ true) same ends)

-- a line whose marks begin with a word begins with it
record Fronts (word us : List ℕ) (tail : Marks) : Type 0 where
  rest : List ℕ
  is : us ≡ word ++ rest
  behind : drop (length word) (marks_of us ++ tail) ≡ marks_of rest ++ tail

fronts-more : (w : ℕ) (word : List ℕ) (c : ℕ) (us : List ℕ) (tail : Marks) → marks_of (c ∷ us) ≡ single c ∷ marks_of us → (character (single c) == w) ≡ true → Fronts word us tail → Fronts (w ∷ word) (c ∷ us) tail
fronts-more w word c us tail marks first later =
    let same : c ≡ w = sym (single-character c) ∙ eqb-true (character (single c)) w first in
    record {
      rest = later.rest;
      is = ap (λ (d : ℕ). d ∷ us) same ∙ ap (λ (t : List ℕ). w ∷ t) later.is;
      behind = ap (λ (t : Marks). drop (length (w ∷ word)) (t ++ tail)) marks ∙ later.behind;
    }

fronts : (word us : List ℕ) (tail : Marks) → list_all is_letter word ≡ true → ends_line tail ≡ true → characters_at word (marks_of us ++ tail) ≡ true → Fronts word us tail
fronts [] us tail letters ends is = record { rest = us; is = refl; behind = refl }
fronts (w ∷ word) [] tail letters ends is = absurd (ended-other w word tail (and_parts (is_letter w) (list_all is_letter word) letters).0 ends is)
fronts (w ∷ word) (c ∷ []) tail letters ends is =
    let parts = and_parts (is_letter w) (list_all is_letter word) letters in
    let first = and_parts (character (single c) == w) (characters_at word tail) is in
    fronts-more w word c [] tail refl first.0 (fronts word [] tail parts.1 ends first.1)
fronts (w ∷ word) (c ∷ d ∷ us) tail letters ends is =
    let parts = and_parts (is_letter w) (list_all is_letter word) letters in
    go (c == 92 && lex.is_escape d) refl is (λ later. fronts word (d ∷ us) tail parts.1 ends later)
  where
    go : (b : Bool) → (c == 92 && lex.is_escape d) ≡ b → characters_at (w ∷ word) (cond b (Escaped (lex.escaped d) ∷ marks_of us) (single c ∷ marks_of (d ∷ us)) ++ tail) ≡ true
        → (characters_at word (marks_of (d ∷ us) ++ tail) ≡ true → Fronts word (d ∷ us) tail) → Fronts (w ∷ word) (c ∷ d ∷ us) tail
    go true e is later =
        let other = escaped-other w d (and_parts (is_letter w) (list_all is_letter word) letters).0 (and_parts (c == 92) (lex.is_escape d) e).1 in
        absurd (both_ways (lex.escaped d == w) other (and_parts (lex.escaped d == w) (characters_at word (marks_of us ++ tail)) is).0)
    go false e is later =
        let first = and_parts (character (single c) == w) (characters_at word (marks_of (d ∷ us) ++ tail)) is in
        fronts-more w word c (d ∷ us) tail (rw e refl) first.0 (later first.1)

-- and a colon that is a sign
record Colon (us : List ℕ) : Type 0 where
  rest : List ℕ
  is : us ≡ 58 ∷ rest

colon-single : (c : ℕ) (us : List ℕ) (marks : Marks) → signs_at (58 ∷ []) (single c ∷ marks) ≡ true → Colon (c ∷ us)
colon-single c us marks is = go (lex.is_sign c) is
  where
    go : (b : Bool) → signs_at (58 ∷ []) (cond b (Sign c) (Plain c) ∷ marks) ≡ true → Colon (c ∷ us)
    go true is = record { rest = us; is = ap (λ (d : ℕ). d ∷ us) (eqb-true c 58 (and_parts (c == 58) true is).0) }
    go false is = cc

colon : (us : List ℕ) (tail : Marks) → ends_line tail ≡ true → signs_at (58 ∷ []) (marks_of us ++ tail) ≡ true → Colon us
colon [] [] ends is = cc
colon [] (Escaped c ∷ tail) ends is = cc
colon [] (Sign c ∷ tail) ends is = cc
colon [] (Plain c ∷ tail) ends is = cc
colon (c ∷ []) tail ends is = colon-single c [] tail is
colon (c ∷ d ∷ us) tail ends is = go (c == 92 && lex.is_escape d) is
  where
    go : (b : Bool) → signs_at (58 ∷ []) (cond b (Escaped (lex.escaped d) ∷ marks_of us) (single c ∷ marks_of (d ∷ us)) ++ tail) ≡ true → Colon (c ∷ d ∷ us)
    go true is = cc
    go false is = colon-single c (d ∷ us) (marks_of (d ∷ us) ++ tail) is

-- ---- the white space before it

indented-gap : (c : ℕ) (cs : List ℕ) (tail : Marks) → is_gap c ≡ true → line_marks (marks_of (c ∷ cs) ++ tail) ≡ line_marks (marks_of cs ++ tail)
indented-gap c cs tail gap = elim (or_cases (c == 32) (c == 9) gap) [
  | inl space ↦ ap (λ (d : ℕ). line_marks (marks_of (d ∷ cs) ++ tail)) (eqb-true c 32 space) ∙ ap (λ (t : Marks). line_marks (t ++ tail)) (marks_of-single 32 cs refl)
  | inr tab ↦ ap (λ (d : ℕ). line_marks (marks_of (d ∷ cs) ++ tail)) (eqb-true c 9 tab) ∙ ap (λ (t : Marks). line_marks (t ++ tail)) (marks_of-single 9 cs refl)
]

inked-single : (c : ℕ) (marks : Marks) → is_gap c ≡ false → (c == 10) ≡ false → line_marks (single c ∷ marks) ≡ single c ∷ marks
inked-single c marks gap feed = go (lex.is_sign c)
  where
    parts : ((c == 32) ≡ false) × ((c == 9) ≡ false)
    parts = or_parts (c == 32) (c == 9) gap

    go : (b : Bool) → line_marks (cond b (Sign c) (Plain c) ∷ marks) ≡ cond b (Sign c) (Plain c) ∷ marks
    go true = rw (parts.0, parts.1, feed) refl
    go false = rw (parts.0, parts.1, feed) refl

inked : (c : ℕ) (cs : List ℕ) (tail : Marks) → is_gap c ≡ false → (c == 10) ≡ false → line_marks (marks_of (c ∷ cs) ++ tail) ≡ marks_of (c ∷ cs) ++ tail
inked c [] tail gap feed = inked-single c tail gap feed
inked c (d ∷ cs) tail gap feed = go (c == 92 && lex.is_escape d)
  where
    go : (b : Bool) → line_marks (cond b (Escaped (lex.escaped d) ∷ marks_of cs) (single c ∷ marks_of (d ∷ cs)) ++ tail) ≡ cond b (Escaped (lex.escaped d) ∷ marks_of cs) (single c ∷ marks_of (d ∷ cs)) ++ tail
    go true = refl
    go false = inked-single c (marks_of (d ∷ cs) ++ tail) gap feed

unindented-marks : (cs : List ℕ) (tail : Marks) → list_all is_inner cs ≡ true → is_blank_line cs ≡ false → line_marks (marks_of cs ++ tail) ≡ marks_of (unindented cs) ++ tail
unindented-marks [] tail all ink = cc
unindented-marks (c ∷ cs) tail all ink = go (is_gap c) refl (λ blank. unindented-marks cs tail parts.1 blank)
  where
    parts : (is_inner c ≡ true) × (list_all is_inner cs ≡ true)
    parts = and_parts (is_inner c) (list_all is_inner cs) all

    go : (b : Bool) → is_gap c ≡ b → (is_blank_line cs ≡ false → line_marks (marks_of cs ++ tail) ≡ marks_of (unindented cs) ++ tail)
        → line_marks (marks_of (c ∷ cs) ++ tail) ≡ marks_of (cond b (unindented cs) (c ∷ cs)) ++ tail
    go true e later = indented-gap c cs tail e ∙ later (rw e at ink)
    go false e later = inked c cs tail e (not-true (c == 10) (and_parts (is_good c) (not (c == 10)) parts.0).1)

-- a line whose marks begin as a category line does is one
category-line : (cs : List ℕ) (tail : Marks) → list_all is_inner cs ≡ true → is_blank_line cs ≡ false → ends_line tail ≡ true → is_category (marks_of cs ++ tail) ≡ true → lex.is_category cs ≡ true
category-line cs tail all ink ends is =
    let word = codes "$CATEGORY" in
    let us = unindented cs in
    let begins = unindented-marks cs tail all ink in
    let both = subst (λ (t : Marks). (characters_at word t && signs_at (codes ":") (drop 9 t)) ≡ true) begins is in
    let parts = and_parts (characters_at word (marks_of us ++ tail)) (signs_at (codes ":") (drop 9 (marks_of us ++ tail))) both in
    let front = fronts word us tail refl ends parts.0 in
    let behind = colon front.rest tail ends (subst (λ (t : Marks). signs_at (codes ":") t ≡ true) front.behind parts.1) in
    let whole : us ≡ codes "$CATEGORY:" ++ behind.rest = front.is ∙ ap (λ (t : List ℕ). codes "$CATEGORY" ++ t) behind.is in
    ap (λ (t : List ℕ). starts_with nat_eq t (codes "$CATEGORY:")) whole

-- ---- blocks

abbrev Feedless : Marks → Type 0
Feedless marks = list_all is_feedless (drop 10 (line_marks marks)) ≡ true

-- behind the front of a category line stands no line feed
joined-feedless : (lines : List Line) → list_all is_line lines ≡ true → is_closed lines ≡ true → is_category (joined lines) ≡ true → Feedless (joined lines)
joined-feedless [] all closed is = refl
joined-feedless (line ∷ []) all closed is =
    let marks : Marks = lex.line_marks line ++ [] in
    let here = line-feedless line (and_parts (is_line line) true all).0 in
    let whole : list_all is_feedless marks ≡ true = list_all-append is_feedless (lex.line_marks line) [] ∙ and_from _ _ here refl in
    let kept = all-kept is_feedless in
    kept-drop (λ (m : Marks). list_all is_feedless m ≡ true) kept 10 (line_marks marks) (kept-from (λ (m : Marks). list_all is_feedless m ≡ true) kept begins_line marks whole)
joined-feedless (line ∷ next ∷ lines) all closed is = go (is_comment line.1) refl is (λ later. joined-feedless (next ∷ lines) parts.1 later)
  where
    parts : (is_line line ≡ true) × (list_all is_line (next ∷ lines) ≡ true)
    parts = and_parts (is_line line) (list_all is_line (next ∷ lines)) all

    later_closed : (category : Bool) → cond category false (is_closed (next ∷ lines)) ≡ true → is_closed (next ∷ lines) ≡ true
    later_closed true closed = cc
    later_closed false closed = closed

    go : (b : Bool) → is_comment line.1 ≡ b → is_category (cond b (Plain 32 ∷ []) (marks_of line.1) ++ further (next ∷ lines)) ≡ true
        → (is_closed (next ∷ lines) ≡ true → is_category (joined (next ∷ lines)) ≡ true → Feedless (joined (next ∷ lines))) → Feedless (cond b (Plain 32 ∷ []) (marks_of line.1) ++ further (next ∷ lines))
    go true e is later = later (later_closed (lex.is_category line.1) (rw e at closed)) is
    go false e is later =
        let line_is = and_parts (list_all is_inner line.1) (not (is_blank_line line.1)) parts.0 in
        let category = category-line line.1 (further (next ∷ lines)) line_is.0 (not-true (is_blank_line line.1) line_is.1) refl is in
        let last : false ≡ true = rw category at closed in
        cc

pub record IsLexed (b : Block) : Type 0 where
  pub good : IsGood b.marks
  pub feedless : is_category b.marks ≡ true → list_all is_feedless (drop 10 (line_marks b.marks)) ≡ true

blocks-lexed : (groups : List (List Line)) → list_all is_group groups ≡ true → Each IsLexed (map block_of groups)
blocks-lexed [] all = tt
blocks-lexed (group ∷ groups) all =
    let parts = and_parts (is_group group) (list_all is_group groups) all in
    let is = and_parts (list_all is_line group) (is_closed group) parts.0 in
    (record { good = record { all = joined-good group is.0 }; feedless = λ category. joined-feedless group is.0 is.1 category }, blocks-lexed groups parts.1)

pub blocks_of-lexed : (text : List ℕ) → IsUtf8 text → Each IsLexed (blocks_of text)
blocks_of-lexed text utf8 = blocks-lexed (groups (lines_of text)) (groups-are text utf8)
