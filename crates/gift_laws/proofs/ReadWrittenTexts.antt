-- The texts that marks spell are texts of written questions.
use Rattle.std.proofs.Common.{◌≡◌, ◌≢◌, ℕ, Bool, true, false, cond, not, ◌&&◌, ◌==◌, List, [], ◌∷◌, ◌++◌, take, map, encode_utf8_all, codes, refl, ap, ◌∙◌}
use Rattle.std.specs.Char.{encode_utf8}
use Rattle.std.specs.List.{list_all}
use Rattle.std.specs.Str.{chars}
use Rattle.std.proofs.Math.Utf8.{scalars}
use lib.Utf8.{scalar}
use Rattle.std.proofs.lemmas.Bool.{and_parts, and_from, cond_both, not-true}
use Rattle.std.proofs.lemmas.List.Folds.{list_all-append, list_all-map}
use Rattle.std.proofs.lemmas.Str.{chars-encodes}
use Rattle.gift_lex.specs.declared.block.Piece.{Piece}
use Rattle.gift_lex.specs.Blocks.{space}
use Rattle.qz_grading.specs.declared.question.Format.{Format}
use Rattle.qz_grading.specs.Canonical.{is_nothing}
use Rattle.gift_read.specs.Places.{Marks, character, is_space, trimmed}
use Rattle.gift_read.specs.Texts.{spelled, text_of, shown, formatted, rich_of, begins_blank, single_spaced, or_question, made_name}
use Rattle.gift_laws.specs.Written as written
use Rattle.gift_laws.specs.Written.{has_no_return, IsText, IsRich}
use Rattle.gift_laws.proofs.ReadBackPlaces.{begins_ink, ends_ink}
use Rattle.gift_laws.proofs.ReadBackPieces.{ends-behind}
use Rattle.gift_laws.proofs.ReadBackWriting.{scalars-all}
use Rattle.gift_laws.proofs.ListLemmas.{list_all-implies}
use Rattle.gift_laws.proofs.ReadWrittenMarks.{IsKept, all-kept, all-take, kept-trimmed, kept-shown, IsTrimmed, trimmed-is, shown-is}

-- ---- characters of texts

-- a character that a text may have
abbrev pub is_good : ℕ → Bool
is_good c = scalar c && not (c == 13)

abbrev pub is_good_mark : Piece → Bool
is_good_mark m = is_good (character m)

pub record IsGood (marks : Marks) : Type 0 where
  pub all : list_all is_good_mark marks ≡ true

pub good-kept : IsKept IsGood
good-kept = record {
  nothing = record { all = refl };
  behind = λ m marks good. record { all = kept.behind m marks good.all };
  ahead = λ here marks good. record { all = kept.ahead here marks good.all };
}
  where
    kept : IsKept (λ (marks : Marks). list_all is_good_mark marks ≡ true)
    kept = all-kept is_good_mark

pub good-append : (marks more : Marks) → IsGood marks → IsGood more → IsGood (marks ++ more)
good-append marks more first second = record { all = list_all-append is_good_mark marks more ∙ and_from _ _ first.all second.all }

-- ---- their bytes

good-scalars : (cs : List ℕ) → list_all is_good cs ≡ true → scalars cs ≡ true
good-scalars cs all = scalars-all cs ∙ list_all-implies is_good scalar (λ c is. (and_parts (scalar c) (not (c == 13)) is).0) cs all

good-no_return : (cs : List ℕ) → list_all is_good cs ≡ true → has_no_return cs ≡ true
good-no_return cs all = list_all-implies is_good (λ c. not (c == 13)) (λ c is. (and_parts (scalar c) (not (c == 13)) is).1) cs all

pub encoded-chars : (cs : List ℕ) → list_all is_good cs ≡ true → chars (encode_utf8_all cs) ≡ cs
encoded-chars cs all = chars-encodes cs (good-scalars cs all)

pub encoded-text : (cs : List ℕ) → list_all is_good cs ≡ true → written.begins_ink cs ≡ true → written.ends_ink cs ≡ true → IsText (encode_utf8_all cs)
encoded-text cs all begins ends =
    let same : chars (encode_utf8_all cs) ≡ cs = encoded-chars cs all in
    record {
      utf8 = (cs, (good-scalars cs all, refl));
      begins = ap written.begins_ink same ∙ begins;
      ends = ap written.ends_ink same ∙ ends;
      no_return = ap has_no_return same ∙ good-no_return cs all;
    }

-- ---- texts of marks

good-characters : (marks : Marks) → IsGood marks → list_all is_good (map character marks) ≡ true
good-characters marks good = list_all-map is_good character marks ∙ good.all

pub spelled-chars : (marks : Marks) → IsGood marks → chars (spelled marks) ≡ map character marks
spelled-chars marks good = encoded-chars (map character marks) (good-characters marks good)

spelled-text : (marks : Marks) → IsGood marks → IsTrimmed marks → IsText (spelled marks)
spelled-text marks good trimmed = encoded-text (map character marks) (good-characters marks good) trimmed.begins trimmed.ends

pub text_of-text : (marks : Marks) → IsGood marks → IsText (text_of marks)
text_of-text marks good = spelled-text (trimmed marks) (kept-trimmed IsGood good-kept marks good) (trimmed-is marks)

-- the text of a question
pub shown-text : (marks : Marks) → IsGood marks → IsText (spelled (shown marks))
shown-text marks good = spelled-text (shown marks) (kept-shown IsGood good-kept marks good) (shown-is marks)

pub nothing-text : IsText []
nothing-text = encoded-text [] refl refl refl

-- any other
pub rich_of-rich : (default : Format) (marks : Marks) → IsGood marks → IsRich default (rich_of default marks)
rich_of-rich default marks good = go (is_nothing (spelled (shown marks))) refl
  where
    some : (text : List ℕ) → is_nothing text ≡ false → text ≢ []
    some [] e none = cc
    some (c ∷ cs) e none = cc

    go : (b : Bool) → is_nothing (spelled (shown marks)) ≡ b → IsRich default (cond b (record { format = default; text = [] }) (formatted default marks))
    go true e = record { text = nothing-text; empty = λ none. refl }
    go false e = record { text = shown-text marks good; empty = λ none. absurd (some (spelled (shown marks)) e none) }

-- ---- names made from a text

single_spaced-good : (marks : Marks) → list_all is_good_mark marks ≡ true → list_all is_good (single_spaced marks) ≡ true
single_spaced-good [] all = refl
single_spaced-good (m ∷ marks) all =
    let parts = and_parts (is_good_mark m) (list_all is_good_mark marks) all in
    let later = single_spaced-good marks parts.1 in
    let first : is_good (cond (is_space m) space (character m)) ≡ true = cond_both (is_space m) space (character m) (λ (c : ℕ). is_good c ≡ true) (λ e. refl) (λ e. parts.0) in
    cond_both (is_space m && begins_blank marks) (single_spaced marks) (cond (is_space m) space (character m) ∷ single_spaced marks) (λ (cs : List ℕ). list_all is_good cs ≡ true)
    (λ e. later) (λ e. and_from _ _ first later)

single_spaced-some : (m : Piece) (marks : Marks) → single_spaced (m ∷ marks) ≢ []
single_spaced-some m [] = cond_both (is_space m && false) [] (cond (is_space m) space (character m) ∷ []) (λ (cs : List ℕ). cs ≢ []) (λ e. absurd (never (is_space m) e)) (λ e none. cc)
  where
    never : (b : Bool) → (b && false) ≡ true → ⊥
    never true e = cc
    never false e = cc
single_spaced-some m (n ∷ marks) =
    cond_both (is_space m && is_space n) (single_spaced (n ∷ marks)) (cond (is_space m) space (character m) ∷ single_spaced (n ∷ marks)) (λ (cs : List ℕ). cs ≢ [])
    (λ e. single_spaced-some n marks) (λ e none. cc)

single_spaced-begins : (marks : Marks) → begins_ink marks ≡ true → written.begins_ink (single_spaced marks) ≡ true
single_spaced-begins [] ink = refl
single_spaced-begins (m ∷ marks) ink = let no_space = not-true (is_space m) ink in rw no_space (ap not no_space)

single_spaced-ends : (marks : Marks) → ends_ink marks ≡ true → written.ends_ink (single_spaced marks) ≡ true
single_spaced-ends [] ink = refl
single_spaced-ends (m ∷ []) ink = let no_space = not-true (is_space m) ink in rw no_space (ap not no_space)
single_spaced-ends (m ∷ n ∷ marks) ink =
    let later = single_spaced-ends (n ∷ marks) ink in
    cond_both (is_space m && is_space n) (single_spaced (n ∷ marks)) (cond (is_space m) space (character m) ∷ single_spaced (n ∷ marks)) (λ (cs : List ℕ). written.ends_ink cs ≡ true)
    (λ e. later) (λ e. ends-behind (cond (is_space m) space (character m) ∷ []) (single_spaced (n ∷ marks)) (single_spaced-some n marks) ∙ later)

pub record IsNamed (name : List ℕ) : Type 0 where
  pub text : IsText name
  pub some : name ≢ []

question-named : IsNamed (codes "Question")
unfolding encode_utf8
question-named = record { text = encoded-text (codes "Question") refl refl refl; some = λ none. cc }

or_question-named : (name : List ℕ) → IsText name → IsNamed (or_question name)
or_question-named [] text = question-named
or_question-named (b ∷ name) text = record { text = text; some = λ none. cc }

pub made_name-named : (marks : Marks) → IsGood marks → IsNamed (made_name marks)
made_name-named marks good =
    let front : Marks = trimmed (take 80 marks) in
    let good_front = kept-trimmed IsGood good-kept (take 80 marks) (record { all = all-take is_good_mark 80 marks good.all }) in
    let ink = trimmed-is (take 80 marks) in
    or_question-named (encode_utf8_all (single_spaced front)) (encoded-text (single_spaced front) (single_spaced-good front good_front.all) (single_spaced-begins front ink.begins) (single_spaced-ends front ink.ends))
