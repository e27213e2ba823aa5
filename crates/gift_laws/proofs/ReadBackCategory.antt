-- Category lines, read back.
use Rattle.std.proofs.Common.{◌≡◌, ◌≢◌, ℕ, Bool, true, false, cond, not, ◌&&◌, ◌==◌, eqb, nat_lt, List, [], ◌∷◌, ◌++◌, map, flat_map, length, encode_utf8_all, Result, Ok, refl, sym, ap, ◌∙◌, append_assoc, append-nil, codes, lit<}
use Rattle.std.specs.Char.{encode_utf8}
use Rattle.std.specs.List.{list_all, list_any, onto_first, starts_with}
use Rattle.std.specs.Str.{chars}
use lib.Utf8.{scalar}
use Rattle.std.proofs.lemmas.Bool.{and_parts, and_from, eqb-true, eqb-false, ne_eqb, not-true}
use Rattle.std.proofs.lemmas.Grind.{flat_map-append}
use Rattle.std.proofs.lemmas.List.{map-append, nil_from_length}
use Rattle.std.proofs.lemmas.List.Folds.{list_all-append}
use Rattle.std.proofs.lemmas.Str.{encode_ascii, encodes-append, encodes-chars, scalars-chars, chars-nil}
use Rattle.gift_lex.specs.declared.block.Block.{Block}
use Rattle.gift_lex.specs.declared.block.Piece.TheVariants.{Escaped, Sign, Plain}
use Rattle.gift_lex.specs.Blocks as lex
use Rattle.gift_lex.specs.Blocks.{between_feeds, marks_of, single}
use Rattle.gift_lex.proofs.Fronts.{starts_with-chars}
use Rattle.gift_lex.proofs.OneBlock.{gives-category}
use Rattle.qz_grading.specs.declared.question.Item.{Item}
use Rattle.qz_grading.specs.Canonical.{category_name, category_path, begins_with, is_nothing, canonical_size}
use Rattle.gift_write.proofs.EscapeLemmas.{category_name-other}
use Rattle.gift_read.specs.declared.reading.Entry.{Entry}
use Rattle.gift_read.specs.declared.reading.Entry.TheVariants as entry
use Rattle.gift_read.specs.Places.{Marks, are_blank}
use Rattle.gift_read.specs.Texts.{spelled, text_of}
use Rattle.gift_read.specs.Values.{question}
use Rattle.gift_read.specs.Category as category
use Rattle.gift_read.specs.Category.{written, is_slash, names}
use Rattle.qz_grading.specs.declared.limits.TheConstants.{MOST_TOGETHER}
use Rattle.gift_read.specs.Faults.{when, flaws_in, flaws, or_large, broken}
use Rattle.gift_read.specs.Gift.{Fault, told_by, told, followed, items_of}
use Rattle.gift_laws.specs.Written as ink
use Rattle.gift_laws.proofs.ReadBackPlaces.{trimmed-around}
use Rattle.gift_laws.proofs.ReadBackMarks.{plain-characters, Spells-single}
use Rattle.gift_laws.proofs.ReadBackLines.{is_feedless, between_feeds-lines}
use Rattle.gift_laws.proofs.ReadBackWriting.{scalars-all}
use Rattle.gift_laws.proofs.ReadBackBank.{IsPlainText, plain_text-append, feeds_text, blocks_from, ReadsItems}

slash_text : IsPlainText (47 ∷ []) (47 ∷ [])
unfolding encode_utf8
slash_text = record { is = refl; scalar = refl; no_return = refl }

word_text : IsPlainText (codes "$CATEGORY: ") (codes "$CATEGORY: ")
unfolding encode_utf8
word_text = record { is = refl; scalar = refl; no_return = refl }

-- ---- each backslash stands for itself

written-single : (c : ℕ) → written (single c) ≡ Plain c ∷ []
written-single c = go (lex.is_sign c)
  where
    go : (b : Bool) → written (cond b (Sign c) (Plain c)) ≡ Plain c ∷ []
    go true = refl
    go false = refl

-- an escape pair is written as it stands
written-pair : (d : ℕ) → lex.is_escape d ≡ true → written (Escaped (lex.escaped d)) ≡ Plain 92 ∷ Plain d ∷ []
written-pair d e = go (d == 110) refl (d == 10) refl
  where
    go : (n : Bool) → (d == 110) ≡ n → (f : Bool) → (d == 10) ≡ f → written (Escaped (cond n 10 d)) ≡ Plain 92 ∷ Plain d ∷ []
    go true is f feed = rw (eqb-true d 110 is) refl
    go false is true feed = let none : lex.is_escape d ≡ false = rw (eqb-true d 10 feed) refl in cc
    go false is false feed = rw feed refl

pub written-marks : (cs : List ℕ) → flat_map written (marks_of cs) ≡ map Plain cs
written-marks [] = refl
written-marks (c ∷ []) = ap (λ (t : Marks). t ++ []) (written-single c)
written-marks (c ∷ d ∷ cs) = go (c == 92 && lex.is_escape d) refl (written-marks cs) (written-marks (d ∷ cs))
  where
    go : (b : Bool) → (c == 92 && lex.is_escape d) ≡ b → flat_map written (marks_of cs) ≡ map Plain cs → flat_map written (marks_of (d ∷ cs)) ≡ map Plain (d ∷ cs)
        → flat_map written (cond b (Escaped (lex.escaped d) ∷ marks_of cs) (single c ∷ marks_of (d ∷ cs))) ≡ map Plain (c ∷ d ∷ cs)
    go true e pair other =
        let parts = and_parts (c == 92) (lex.is_escape d) e in
        ap (λ (t : Marks). t ++ flat_map written (marks_of cs)) (written-pair d parts.1) ∙ ap (λ (t : Marks). Plain 92 ∷ Plain d ∷ t) pair
        ∙ ap (λ (x : ℕ). Plain x ∷ Plain d ∷ map Plain cs) (sym (eqb-true c 92 parts.0))
    go false e pair other = ap (λ (t : Marks). t ++ flat_map written (marks_of (d ∷ cs))) (written-single c) ∙ ap (λ (t : Marks). Plain c ∷ t) other

-- ---- names

-- a character that is no slash
names-other : (c : ℕ) (rest : Marks) → (c == 47) ≡ false → names (Plain c ∷ rest) ≡ onto_first (Plain c) (names rest)
names-other c [] other = rw other refl
names-other c (n ∷ rest) other = rw other refl

-- a slash that is doubled
names-slash : (c : ℕ) (rest : Marks) → (c == 47) ≡ true → names (Plain 47 ∷ Plain 47 ∷ rest) ≡ onto_first (Plain c) (names rest)
names-slash c rest e = ap (λ (x : ℕ). onto_first (Plain x) (names rest)) (sym (eqb-true c 47 e))

names-character : (c : ℕ) (rest : Marks) → names (map Plain (cond (c == 47) (47 ∷ 47 ∷ []) (c ∷ [])) ++ rest) ≡ onto_first (Plain c) (names rest)
names-character c rest = go (c == 47) refl
  where
    go : (b : Bool) → (c == 47) ≡ b → names (map Plain (cond b (47 ∷ 47 ∷ []) (c ∷ [])) ++ rest) ≡ onto_first (Plain c) (names rest)
    go true e = names-slash c rest e
    go false e = names-other c rest e

names-more : (c : ℕ) (cs : List ℕ) (rest : Marks) → names (map Plain (category_name (c ∷ cs)) ++ rest) ≡ onto_first (Plain c) (names (map Plain (category_name cs) ++ rest))
names-more c cs rest =
    let front = cond (c == 47) (47 ∷ 47 ∷ []) (c ∷ []) in
    ap (λ (t : Marks). names (t ++ rest)) (map-append Plain front (category_name cs))
    ∙ ap names (append_assoc (map Plain front) (map Plain (category_name cs)) rest)
    ∙ names-character c (map Plain (category_name cs) ++ rest)

-- one name, and what follows it
names-front : (cs : List ℕ) (rest : Marks) (others : List Marks) → names rest ≡ [] ∷ others → names (map Plain (category_name cs) ++ rest) ≡ map Plain cs ∷ others
names-front [] rest others e = e
names-front (c ∷ cs) rest others e = names-more c cs rest ∙ ap (onto_first (Plain c)) (names-front cs rest others e)

abbrev pub are_names : List (List ℕ) → Bool
are_names css = list_all ink.begins_name css

abbrev begins_other : Marks → Bool
begins_other [] = false
begins_other (m ∷ marks) = not (is_slash m)

separated : (rest : Marks) → begins_other rest ≡ true → names (Plain 47 ∷ rest) ≡ [] ∷ names rest
separated [] other = cc
separated (m ∷ rest) other = rw (not-true (is_slash m) other) refl

path-begins : (css : List (List ℕ)) → css ≢ [] → are_names css ≡ true → begins_other (map Plain (category_path css)) ≡ true
path-begins [] some named = absurd (some refl)
path-begins ([] ∷ css) some named = cc
path-begins ((c ∷ cs) ∷ []) some named =
    let other = not-true (c == 47) (and_parts (not (c == 47)) true named).0 in
    rw (other, other) refl
path-begins ((c ∷ cs) ∷ ds ∷ css) some named =
    let other = not-true (c == 47) (and_parts (not (c == 47)) (are_names (ds ∷ css)) named).0 in
    rw (other, other) refl

pub names-path : (cs : List ℕ) (css : List (List ℕ)) → are_names (cs ∷ css) ≡ true → names (map Plain (category_path (cs ∷ css))) ≡ map (map Plain) (cs ∷ css)
names-path cs [] named = ap names (sym (append-nil (map Plain (category_name cs)))) ∙ names-front cs [] [] refl
names-path cs (ds ∷ css) named =
    let parts = and_parts (ink.begins_name cs) (are_names (ds ∷ css)) named in
    let later = names-path ds css parts.1 in
    let rest = map Plain (category_path (ds ∷ css)) in
    let some : begins_other rest ≡ true = path-begins (ds ∷ css) (λ e. cc) parts.1 in
    ap names (map-append Plain (category_name cs) (47 ∷ category_path (ds ∷ css)))
    ∙ names-front cs (Plain 47 ∷ rest) (map (map Plain) (ds ∷ css)) (separated rest some ∙ ap (λ (t : List Marks). [] ∷ t) later)

-- ---- the characters of a path

category_name-character : (c : ℕ) → category_name (encode_utf8 c) ≡ encode_utf8_all (cond (c == 47) (47 ∷ 47 ∷ []) (c ∷ []))
category_name-character c = go (c == 47) refl
  where
    go : (b : Bool) → (c == 47) ≡ b → category_name (encode_utf8 c) ≡ encode_utf8_all (cond b (47 ∷ 47 ∷ []) (c ∷ []))
    go true e = rw (eqb-true c 47 e, encode_ascii 47 (lit< tt)) refl
    go false e = category_name-other c (eqb-false c 47 e) ∙ sym (append-nil (encode_utf8 c))

category_name-encodes : (cs : List ℕ) → category_name (encode_utf8_all cs) ≡ encode_utf8_all (category_name cs)
category_name-encodes [] = refl
category_name-encodes (c ∷ cs) =
    let front = cond (c == 47) (47 ∷ 47 ∷ []) (c ∷ []) in
    flat_map-append (λ (b : ℕ). cond (b == 47) (47 ∷ 47 ∷ []) (b ∷ [])) (encode_utf8 c) (encode_utf8_all cs)
    ∙ ap (λ (t : List ℕ). t ++ category_name (encode_utf8_all cs)) (category_name-character c)
    ∙ ap (λ (t : List ℕ). encode_utf8_all front ++ t) (category_name-encodes cs)
    ∙ sym (encodes-append front (category_name cs))

-- what holds of a slash and of each character
list_all-name : (p : ℕ → Bool) → p 47 ≡ true → (cs : List ℕ) → list_all p cs ≡ true → list_all p (category_name cs) ≡ true
list_all-name p slash [] all = refl
list_all-name p slash (c ∷ cs) all =
    let parts = and_parts (p c) (list_all p cs) all in
    list_all-append p (cond (c == 47) (47 ∷ 47 ∷ []) (c ∷ [])) (category_name cs)
    ∙ and_from (list_all p (cond (c == 47) (47 ∷ 47 ∷ []) (c ∷ []))) (list_all p (category_name cs)) (go (c == 47) parts.0) (list_all-name p slash cs parts.1)
  where
    go : (b : Bool) → p c ≡ true → list_all p (cond b (47 ∷ 47 ∷ []) (c ∷ [])) ≡ true
    go true holds = rw slash refl
    go false holds = rw holds refl

abbrev pub path_characters : List (List ℕ) → List ℕ
path_characters path = category_path (map chars path)

Writes-name : (name : List ℕ) → ink.IsName name → IsPlainText (category_name name) (category_name (chars name))
Writes-name name is = record {
  is = ap category_name (sym (encodes-chars name is.text.utf8)) ∙ category_name-encodes (chars name);
  scalar = scalars-all (category_name (chars name)) ∙ list_all-name scalar refl (chars name) (sym (scalars-all (chars name)) ∙ scalars-chars name is.text.utf8);
  no_return = list_all-name (λ c. not (c == 13)) refl (chars name) is.text.no_return;
}

Writes-path : (path : List (List ℕ)) → ink.AreNames path → IsPlainText (category_path path) (path_characters path)
Writes-path [] names = record { is = refl; scalar = refl; no_return = refl }
Writes-path (name ∷ []) names = Writes-name name names.0
Writes-path (name ∷ next ∷ path) names =
    plain_text-append (category_name name) (47 ∷ category_path (next ∷ path)) (category_name (chars name)) (47 ∷ path_characters (next ∷ path)) (Writes-name name names.0)
    (plain_text-append (47 ∷ []) (category_path (next ∷ path)) (47 ∷ []) (path_characters (next ∷ path)) slash_text (Writes-path (next ∷ path) names.1))

path-feedless : (path : List (List ℕ)) → ink.AreNames path → is_feedless (path_characters path) ≡ true
path-feedless [] names = refl
path-feedless (name ∷ []) names = list_all-name (λ c. not (c == 10)) refl (chars name) names.0.feedless
path-feedless (name ∷ next ∷ path) names =
    list_all-append (λ c. not (c == 10)) (category_name (chars name)) (47 ∷ path_characters (next ∷ path))
    ∙ rw (list_all-name (λ c. not (c == 10)) refl (chars name) names.0.feedless) (path-feedless (next ∷ path) names.1)

-- ---- the names are read

name-read : (name : List ℕ) (space : Marks) → ink.IsText name → are_blank space ≡ true → text_of (space ++ map Plain (chars name)) ≡ name
name-read name space is blank =
    let cs = chars name in
    let same = plain-characters cs in
    let around = trimmed-around space (map Plain cs) [] blank (ap ink.begins_ink same ∙ is.begins) (ap ink.ends_ink same ∙ is.ends) refl in
    ap (λ (t : Marks). text_of (space ++ t)) (sym (append-nil (map Plain cs))) ∙ ap spelled around ∙ ap encode_utf8_all same ∙ encodes-chars name is.utf8

names-read : (path : List (List ℕ)) → ink.AreNames path → map text_of (map (map Plain) (map chars path)) ≡ path
names-read [] names = refl
names-read (name ∷ path) names = rw (name-read name [] names.0.text refl, names-read path names.1) refl

names-begin : (path : List (List ℕ)) → ink.AreNames path → are_names (map chars path) ≡ true
names-begin [] names = refl
names-begin (name ∷ path) names = rw (names.0.begins, names-begin path names.1) refl

abbrev pub category_characters : List (List ℕ) → List ℕ
category_characters path = codes "$CATEGORY: " ++ path_characters path

abbrev category_marks : List (List ℕ) → Marks
category_marks path = map single (codes "$CATEGORY: ") ++ marks_of (path_characters path)

marks_of-category : (path : List (List ℕ)) → marks_of (category_characters path) ≡ category_marks path
marks_of-category path = let spells = Spells-single (codes "$CATEGORY: ") refl in spells.same (path_characters path)

path-read : (name : List ℕ) (path : List (List ℕ)) → ink.AreNames (name ∷ path) → category.path (category_marks (name ∷ path)) ≡ name ∷ path
path-read name path is =
    let pc = path_characters (name ∷ path) in
    let led : Marks = Plain 32 ∷ [] in
    ap (λ (t : Marks). map text_of (names (Plain 32 ∷ t))) (written-marks pc)
    ∙ ap (map text_of) (names-other 32 (map Plain pc) refl)
    ∙ ap (λ (t : List Marks). map text_of (onto_first (Plain 32) t)) (names-path (chars name) (map chars path) (names-begin (name ∷ path) is))
    ∙ ap (λ (t : List ℕ). t ∷ map text_of (map (map Plain) (map chars path))) (name-read name led is.0.text refl)
    ∙ ap (λ (t : List (List ℕ)). name ∷ t) (names-read path is.1)

-- ---- no name is bad

begins-slash : (bs : List ℕ) → begins_with 47 bs ≡ starts_with eqb bs (47 ∷ [])
begins-slash [] = refl
begins-slash (b ∷ bs) = go (b == 47) refl
  where
    go : (t : Bool) → (b == 47) ≡ t → (b == 47) ≡ (eqb 47 b && true)
    go true e = rw (eqb-true b 47 e) refl
    go false e = e ∙ rw (ne_eqb 47 b (λ same. eqb-false b 47 e (sym same))) refl

good_front : (cs : List ℕ) → ink.begins_name cs ≡ true → starts_with eqb cs (47 ∷ []) ≡ false
good_front [] begins = cc
good_front (c ∷ cs) begins = rw (ne_eqb 47 c (λ same. eqb-false c 47 (not-true (c == 47) begins) (sym same))) refl

name_some : (name : List ℕ) → ink.IsName name → is_nothing name ≡ false
name_some name is = ne_eqb (length name) 0 (λ none. empty (nil_from_length name none))
  where
    empty : name ≡ [] → ⊥
    empty e = let begins : ink.begins_name [] ≡ true = ap ink.begins_name (sym (ap chars e ∙ chars-nil)) ∙ is.begins in cc

good_name : (name : List ℕ) → ink.IsName name → category.is_bad_name name ≡ false
good_name name is =
    rw (name_some name is) (begins-slash name ∙ starts_with-chars name (47 ∷ []) is.text.utf8 refl ∙ good_front (chars name) is.begins)

good_path : (path : List (List ℕ)) → ink.AreNames path → list_any category.is_bad_name path ≡ false
good_path [] names = refl
good_path (name ∷ path) names = rw (good_name name names.0, good_path path names.1) refl

-- ---- the block is read

category-told : (b : Block) (name : List ℕ) (path : List (List ℕ)) → ink.AreNames (name ∷ path) → b.marks ≡ category_marks (name ∷ path) → told b ≡ Ok (entry.Category (name ∷ path))
category-told b name path is marks =
    let named : category.is_category b.marks ≡ true = ap category.is_category marks in
    let read : category.path b.marks ≡ name ∷ path = ap category.path marks ∙ path-read name path is in
    let fine : flaws b ≡ [] =
    ap (λ (c : Bool). flaws_in c b) named ∙ ap (λ (p : List (List ℕ)). when (list_any category.is_bad_name p) 3) read ∙ ap (λ (c : Bool). when c 3) (good_path (name ∷ path) is) in
    let whole : broken b ≡ [] = ap (λ (rules : List ℕ). or_large rules b) fine ∙ ap (λ (c : Bool). when (not c && nat_lt MOST_TOGETHER (canonical_size (question b))) 2) named in
    ap (λ (rules : List ℕ). told_by rules (category.is_category b.marks) b) whole
    ∙ ap (λ (c : Bool). told_by [] c b) named
    ∙ ap (λ (p : List (List ℕ)). Ok (entry.Category p)) read

-- ---- a category line before items

pub reads-category : (before : List (List ℕ)) (name : List ℕ) (path : List (List ℕ)) (text : List ℕ) (items : List Item) → ink.AreNames (name ∷ path) → ReadsItems (name ∷ path) text items
    → ReadsItems before ((codes "$CATEGORY: " ++ category_path (name ∷ path) ++ 10 ∷ 10 ∷ []) ++ text) items
reads-category before name path text items is later =
    let whole = name ∷ path in
    let line = plain_text-append (codes "$CATEGORY: ") (category_path whole) (codes "$CATEGORY: ") (path_characters whole) word_text (Writes-path whole is) in
    let ended = plain_text-append (codes "$CATEGORY: " ++ category_path whole) (10 ∷ 10 ∷ []) (category_characters whole) (10 ∷ 10 ∷ []) line feeds_text in
    let feedless : is_feedless (category_characters whole) ≡ true = path-feedless whole is in
    record {
      characters = (category_characters whole ++ 10 ∷ 10 ∷ []) ++ later.characters;
      plain = plain_text-append (codes "$CATEGORY: " ++ category_path whole ++ 10 ∷ 10 ∷ []) text (category_characters whole ++ 10 ∷ 10 ∷ []) later.characters ended later.plain;
      unmarked = refl;
      reads = λ n.
          let lines : between_feeds ((category_characters whole ++ 10 ∷ 10 ∷ []) ++ later.characters) ≡ category_characters whole ∷ [] ∷ between_feeds later.characters =
          ap between_feeds (append_assoc (category_characters whole) (10 ∷ 10 ∷ []) later.characters)
          ∙ between_feeds-lines (category_characters whole) [] later.characters feedless tt in
          let gives = gives-category (category_characters whole) n (between_feeds later.characters) refl refl in
          ap (λ (ls : List (List ℕ)). items_of before (blocks_from n ls)) lines
          ∙ ap (items_of before) gives.blocks_are
          ∙ ap (λ (t : Result Entry Fault). followed before t (λ names. items_of names (blocks_from gives.number (between_feeds later.characters))))
          (category-told gives.block name path is (gives.marks_are ∙ marks_of-category whole))
          ∙ later.reads gives.number;
    }
