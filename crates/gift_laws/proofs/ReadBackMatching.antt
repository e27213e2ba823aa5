-- Matching questions, read back.
use Rattle.std.proofs.Common.{◌≡◌, ◌≢◌, ℕ, Bool, true, false, not, ◌||◌, ◌==◌, List, [], ◌∷◌, ◌++◌, map, length, encode_utf8_all, refl, sym, ap, ◌∙◌, append_assoc, append-nil, codes, nat_lt, arith}
use Rattle.std.specs.Char.{encode_utf8}
use Rattle.std.specs.Str.{chars}
use Rattle.std.proofs.lemmas.Bool.{le-ltb}
use Rattle.std.proofs.lemmas.List.{map-append}
use Rattle.std.proofs.lemmas.List.Folds.{list_all-append}
use Rattle.std.proofs.lemmas.Str.{encodes-chars}
use Rattle.gift_lex.specs.declared.block.Piece.TheVariants.{Sign, Plain}
use Rattle.qz_grading.specs.declared.question.Format.{Format}
use Rattle.qz_grading.specs.declared.question.Kind.TheVariants as kind
use Rattle.qz_grading.specs.declared.question.Pair.{Pair}
use Rattle.qz_grading.specs.declared.question.Rich.{Rich}
use Rattle.qz_grading.specs.Canonical as canonical
use Rattle.qz_grading.specs.Canonical.{format_mark, escaped, rich_text, pair_piece, is_nothing}
use Rattle.qz_grading.specs.Questions as sound
use Rattle.gift_read.specs.declared.places.Landmark.TheVariants as landmark
use Rattle.gift_read.specs.declared.parts.Sort.TheVariants as sort
use Rattle.gift_read.specs.Places.{Marks, character, is_at, are_blank, signs_at, before, occurs}
use Rattle.gift_read.specs.Texts.{spelled, text_of, rich_of}
use Rattle.gift_read.specs.Parts.{Part, sort_in}
use Rattle.gift_read.specs.Values.{question_with, pair_of}
use Rattle.gift_laws.specs.Written as written
use Rattle.gift_laws.specs.Written.{IsText, IsRich, IsPair, Each, has_arrow}
use Rattle.gift_laws.proofs.ReadBackPlaces.{Passes, passes-cons, passes-plain, passes-occurs, found-before, found-from, found-occurs, are_plain, ends_ink, trimmed-around}
use Rattle.gift_laws.proofs.ReadBackMarks.{text_marks-characters, text_marks-plain}
use Rattle.gift_laws.proofs.ReadBackRich.{marks_of_text, rich_characters, written_characters, rich_marks, rich_marks-plain, rich_of-around, spelled-own}
use Rattle.gift_laws.proofs.ReadBackArrows.{passes-arrow, rich-arrow}
use Rattle.gift_laws.proofs.ReadBackTruth.{sort_by}
use Rattle.gift_laws.proofs.ReadBackTold.{IsFaultless}
use Rattle.gift_laws.proofs.ReadBackBank.{IsQuestionText}
use Rattle.gift_laws.proofs.ReadBackWriting.{Writes, Writes-append, Writes-ascii, Writes-rich, Writes-text}
use Rattle.gift_laws.proofs.ReadBackPieces
use Rattle.gift_laws.proofs.ReadBackPieces.{parts_marks, spaced, from_first, gap, IsPart, AreParts, EachPasses, EachEnds, IsPieceLine, ReadsPiece}
use Rattle.gift_laws.proofs.ReadBackKinds.{IsFramed, Writes-opening}
use Rattle.gift_laws.proofs.ReadBackLayout.{Known, known, known-items, flat_map-known, IsPiece, reads-pieces, asks-items}

abbrev arrow : Marks
arrow = Plain 32 ∷ Plain 45 ∷ Plain 62 ∷ Plain 32 ∷ []

abbrev pair_part : Format → Pair → Part
pair_part f p = (61, rich_marks f p.stem ++ arrow ++ marks_of_text p.answer)

-- ---- one pair

-- a pair's marks, and white space
arrow-split : (stem answer space : Marks) → (stem ++ arrow ++ answer) ++ space ≡ (stem ++ Plain 32 ∷ []) ++ (Plain 45 ∷ Plain 62 ∷ Plain 32 ∷ (answer ++ space))
arrow-split stem answer space =
    append_assoc (stem ++ arrow) answer space ∙ append_assoc stem arrow (answer ++ space)
    ∙ sym (append_assoc stem (Plain 32 ∷ []) (Plain 45 ∷ Plain 62 ∷ Plain 32 ∷ (answer ++ space)))

answer-read : (text : List ℕ) (space : Marks) → IsText text → are_blank space ≡ true → text_of (Plain 32 ∷ (marks_of_text text ++ space)) ≡ text
answer-read text space is blank =
    let same = text_marks-characters (chars text) in
    ap spelled (trimmed-around (Plain 32 ∷ []) (marks_of_text text) space refl (ap written.begins_ink same ∙ is.begins) (ap written.ends_ink same ∙ is.ends) blank) ∙ spelled-own text is

pair-read : (f : Format) (p : Pair) (space : Marks) → IsPair f p → are_blank space ≡ true → pair_of f (61, (rich_marks f p.stem ++ arrow ++ marks_of_text p.answer) ++ space) ≡ p
pair-read f p space is blank =
    let stem = rich_marks f p.stem in
    let behind : Marks = Plain 62 ∷ Plain 32 ∷ (marks_of_text p.answer ++ space) in
    let passes = passes-arrow stem (rich-arrow f p.stem is.no_arrow) in
    let here = is_at landmark.Arrow in
    let stem_is : rich_of f (stem ++ Plain 32 ∷ []) ≡ p.stem = rich_of-around f p.stem [] (Plain 32 ∷ []) is.stem refl refl in
    ap (λ (t : Marks). pair_of f (61, t)) (arrow-split stem (marks_of_text p.answer) space)
    ∙ rw (
      found-occurs here (stem ++ Plain 32 ∷ []) (Plain 45) behind passes refl,
      found-before here (stem ++ Plain 32 ∷ []) (Plain 45) behind passes refl,
      found-from here (stem ++ Plain 32 ∷ []) (Plain 45) behind passes refl,
      stem_is,
      answer-read p.answer space is.answer blank,
    ) refl

reads-pair : (f : Format) (p : Pair) → IsPair f p → ReadsPiece (pair_of f) (pair_part f p) p
reads-pair f p is = record {
  alone = ap (λ (t : Marks). pair_of f (61, t)) (sym (append-nil (rich_marks f p.stem ++ arrow ++ marks_of_text p.answer))) ∙ pair-read f p [] is refl;
  followed = pair-read f p gap is refl;
}

pair-plain : (f : Format) (p : Pair) → are_plain (rich_marks f p.stem ++ arrow ++ marks_of_text p.answer) ≡ true
pair-plain f p =
    list_all-append _ (rich_marks f p.stem ++ arrow) (marks_of_text p.answer)
    ∙ rw (list_all-append _ (rich_marks f p.stem) arrow, rich_marks-plain f p.stem, text_marks-plain (chars p.answer)) refl

Writes-arrow : Writes (codes " -> ") (codes " -> ") arrow
unfolding encode_utf8
Writes-arrow = Writes-ascii (codes " -> ") refl refl refl refl refl

Writes-equals : Writes (codes "=") (codes "=") (Sign 61 ∷ [])
unfolding encode_utf8
Writes-equals = Writes-ascii (codes "=") refl refl refl refl refl

pair-line : (f : Format) (p : Pair) → IsPair f p → IsPieceLine (codes "=" ++ rich_text f p.stem ++ codes " -> " ++ escaped p.answer) (codes "=" ++ rich_characters f p.stem ++ codes " -> " ++ written_characters p.answer) (pair_part f p)
pair-line f p is = record {
  writes = Writes-append _ _ _ _ _ _ (Writes-append _ _ _ _ _ _ (Writes-append _ _ _ _ _ _ Writes-equals (Writes-rich f p.stem is.stem.text)) Writes-arrow) (Writes-text p.answer is.answer);
  inked = refl;
  no_comment = refl;
}

-- ---- the question

module _ (f : Format) where
  abbrev KnownPair : Type 0
  KnownPair = Known (IsPair f)

  abbrev part_of : KnownPair → Part
  part_of t = pair_part f t.0

  abbrev text_written : KnownPair → List ℕ
  text_written t = codes "=" ++ rich_text f t.0.stem ++ codes " -> " ++ escaped t.0.answer

  abbrev characters_written : KnownPair → List ℕ
  characters_written t = codes "=" ++ rich_characters f t.0.stem ++ codes " -> " ++ written_characters t.0.answer

-- nothing is found in a pair where signs are looked for, but its own
pair-passes : (s : ℕ) (ss : List ℕ) (f : Format) (t : Known (IsPair f)) → (61 == s) ≡ false → Passes (signs_at (s ∷ ss)) (Sign 61 ∷ (pair_part f t.0).1)
pair-passes s ss f t other = passes-cons (signs_at (s ∷ ss)) (Sign 61) (pair_part f t.0).1 (λ ys. rw other refl) (passes-plain s ss (pair_part f t.0).1 (pair-plain f t.0))

pair-ends : (f : Format) (t : Known (IsPair f)) → ends_ink (Sign 61 ∷ (pair_part f t.0).1) ≡ true
pair-ends f t =
    let stem = rich_marks f t.0.stem in
    let cs = chars t.0.answer in
    let some : cs ≢ [] = λ none. t.1.some (sym (encodes-chars t.0.answer t.1.answer.utf8) ∙ ap encode_utf8_all none) in
    ap written.ends_ink (map-append character (Sign 61 ∷ (stem ++ arrow)) (marks_of_text t.0.answer))
    ∙ ap (λ (u : List ℕ). written.ends_ink (map character (Sign 61 ∷ (stem ++ arrow)) ++ u)) (text_marks-characters cs)
    ∙ ReadBackPieces.ends-behind (map character (Sign 61 ∷ (stem ++ arrow))) cs some
    ∙ t.1.answer.ends

pair-piece : (f : Format) (t : Known (IsPair f)) → IsPiece (pair_part f t.0)
pair-piece f t = record { begins = refl; ends = pair-ends f t; closed = pair-passes 125 [] f t refl; no_hashes = pair-passes 35 (35 ∷ 35 ∷ 35 ∷ []) f t refl }

pair-begins : (f : Format) (t : Known (IsPair f)) → IsPart (is_at landmark.Equals) (pair_part f t.0)
pair-begins f t = record { passes = passes-plain 61 [] (pair_part f t.0).1 (pair-plain f t.0); begins = λ ys. refl }

matching-sort : (f : Format) (t : Known (IsPair f)) (ps : List Part) → occurs (is_at landmark.Tilde) (from_first (pair_part f t.0) ps) ≡ false → sort_in (from_first (pair_part f t.0) ps) ≡ sort.Matching
matching-sort f t ps no_tilde =
    let a = from_first (pair_part f t.0) ps in
    let stem = rich_marks f t.0.stem in
    let answer = marks_of_text t.0.answer in
    let here = is_at landmark.Arrow in
    let arrows : occurs here a ≡ true =
    ap (occurs here) (arrow-split stem answer (parts_marks ps))
    ∙ found-occurs here (stem ++ Plain 32 ∷ []) (Plain 45) (Plain 62 ∷ Plain 32 ∷ (answer ++ parts_marks ps)) (passes-arrow stem (rich-arrow f t.0.stem t.1.no_arrow)) refl in
    ap (λ (x : Bool). sort_by false x true (occurs here a) (before (is_at landmark.Hash) a)) no_tilde
    ∙ ap (λ (x : Bool). sort_by false false true x (before (is_at landmark.Hash) a)) arrows

pub asks-matching : (name : List ℕ) (r general : Rich) (pairs : List Pair) → IsFramed name r general (kind.Matching pairs) → Each (IsPair r.format) pairs → sound.IsSound (kind.Matching pairs)
    → IsQuestionText (question_with name r general (kind.Matching pairs))
asks-matching name r general [] is each whole = absurd (omega (arith, whole.enough))
asks-matching name r general (p ∷ pairs) is each whole =
    let f = r.format in
    let ts = known (IsPair f) (p ∷ pairs) each in
    let q = question_with name r general (kind.Matching (p ∷ pairs)) in
    let bytes = flat_map-known (IsPair f) (pair_piece f) (p ∷ pairs) each in
    let few = le-ltb 64 (length (p ∷ pairs)) whole.few in
    let enough = le-ltb (length (p ∷ pairs)) 2 whole.enough in
    let first : Known (IsPair f) = (p, each.0) in
    let later = known (IsPair f) pairs each.1 in
    let ps = map (part_of f) later in
    let a = from_first (pair_part f p) ps in
    let no_tilde = passes-occurs (signs_at (126 ∷ [])) a (ReadBackPieces.passes-from_first (signs_at (126 ∷ [])) (pair_part f p) ps (passes-plain 126 [] gap refl) (ReadBackPieces.all-pass (signs_at (126 ∷ [])) (part_of f) ts (λ t. pair-passes 126 [] f t refl))) in
    let cut = ReadBackPieces.pieces-parts (is_at landmark.Equals) 61 (pair_part f p) ps (passes-plain 61 [] gap refl) (ReadBackPieces.all-parts (is_at landmark.Equals) (part_of f) ts (pair-begins f)) in
    let value = ap (map (pair_of f)) cut ∙ ReadBackPieces.map-spaced (pair_of f) (part_of f) (λ (t : Known (IsPair f)). t.0) ts (λ t. reads-pair f t.0 t.1) ∙ known-items (IsPair f) (p ∷ pairs) each in
    let faultless : IsFaultless q sort.Matching a = record {
      short = ap (λ (x : Bool). not x || nat_lt 64 (length (p ∷ pairs))) is.short ∙ few;
      pieces = refl;
      weights = refl;
      pairs = ap (λ (x : Bool). ((x || not (sound.has_no_blank (kind.Matching (p ∷ pairs)))) || not (sound.has_stem (kind.Matching (p ∷ pairs)))) || false) enough
          ∙ ap (λ (x : Bool). (not x || not (sound.has_stem (kind.Matching (p ∷ pairs)))) || false) whole.no_blank
          ∙ ap (λ (x : Bool). not x || false) whole.stem;
      numbers = refl;
      feedback = refl;
      right = refl;
    } in
    asks-items name r general (kind.Matching (p ∷ pairs)) (codes "{") [] (text_written f) (characters_written f) (part_of f) ts a sort.Matching is
    (ap (λ (b : List ℕ). canonical.in_lines (codes "{") b f general) bytes)
    Writes-opening
    (λ t. pair-line f t.0 t.1)
    (reads-pieces (characters_written f) (part_of f) first later (is_nothing general.text) (pair-piece f))
    (matching-sort f first ps no_tilde)
    (ap kind.Matching value)
    faultless
