-- The names on the path of a category line are names of written categories.
use Rattle.std.proofs.Common.{◌≡◌, ◌≢◌, ℕ, Bool, true, false, cond, not, ◌&&◌, ◌==◌, List, [], ◌∷◌, drop, map, encode_utf8_all, codes, refl, ap, ◌∙◌, lit<}
use Rattle.std.specs.Char.{encode_utf8}
use Rattle.std.specs.List.{list_all, list_any, onto_first}
use Rattle.std.specs.Str.{chars}
use Rattle.std.proofs.lemmas.Bool.{and_parts, and_from, or_parts, or_right, both_ways, cond_both, eqb-true}
use Rattle.std.proofs.lemmas.List.Folds.{list_all-map}
use Rattle.std.proofs.lemmas.Str.{encode_ascii}
use Rattle.gift_lex.specs.declared.block.Piece.{Piece}
use Rattle.gift_lex.specs.declared.block.Piece.TheVariants.{Escaped, Sign, Plain}
use Rattle.gift_lex.specs.Blocks.{line_feed}
use Rattle.qz_grading.specs.Canonical.{is_nothing}
use Rattle.gift_read.specs.Places.{Marks, character, trimmed}
use Rattle.gift_read.specs.Texts.{text_of}
use Rattle.gift_read.specs.Category.{begins_line, line_marks, written, path_marks, is_slash, names, path, is_bad_name, is_bad_path}
use Rattle.gift_laws.specs.Written.{begins_name, IsName, AreNames}
use Rattle.gift_laws.proofs.ListLemmas.{list_all-implies, list_all-both, flat_map-kept, onto_first-kept}
use Rattle.gift_laws.proofs.ReadWrittenMarks.{all-kept, kept-drop, kept-from, kept-trimmed}
use Rattle.gift_laws.proofs.ReadWrittenTexts.{is_good, is_good_mark, IsGood, good-kept, encoded-chars, spelled-chars, encoded-text, text_of-text}
use Rattle.gift_laws.proofs.ReadWrittenLines.{is_inner}
use Rattle.gift_laws.proofs.ReadWrittenBlocks.{is_feedless, is_inner_mark}

-- ---- the marks of the path

-- a mark whose character may stand in a line
abbrev is_name_mark : Piece → Bool
is_name_mark m = is_inner (character m)

written-inner : (m : Piece) → is_inner_mark m ≡ true → list_all is_name_mark (written m) ≡ true
written-inner (Escaped c) is =
    let good = (and_parts (is_good c) true is).0 in
    and_from _ _ (cond_both (c == line_feed) 110 c (λ (d : ℕ). is_inner d ≡ true) (λ e. refl) (λ e. and_from _ _ good (ap not e))) refl
written-inner (Sign c) is = and_from _ _ is refl
written-inner (Plain c) is = and_from _ _ is refl

names-kept : (p : Piece → Bool) (marks : Marks) → list_all p marks ≡ true → list_all (list_all p) (names marks) ≡ true
names-kept p [] all = refl
names-kept p (m ∷ []) all = cond_both (is_slash m) ([] ∷ [] ∷ []) ((m ∷ []) ∷ []) (λ (t : List Marks). list_all (list_all p) t ≡ true) (λ e. refl) (λ e. and_from _ _ all refl)
names-kept p (m ∷ n ∷ marks) all =
    let parts = and_parts (p m) (list_all p (n ∷ marks)) all in
    let two = names-kept p marks (and_parts (p n) (list_all p marks) parts.1).1 in
    let one = names-kept p (n ∷ marks) parts.1 in
    let passes = λ (t : List Marks). list_all (list_all p) t ≡ true in
    cond_both (is_slash m && is_slash n) (onto_first m (names marks)) (cond (is_slash m) ([] ∷ names (n ∷ marks)) (onto_first m (names (n ∷ marks)))) passes
    (λ e. onto_first-kept p m (names marks) parts.0 two)
    (λ e. cond_both (is_slash m) ([] ∷ names (n ∷ marks)) (onto_first m (names (n ∷ marks))) passes (λ e. one) (λ e. onto_first-kept p m (names (n ∷ marks)) parts.0 one))

names-some : (marks : Marks) → names marks ≢ []
names-some [] = λ none. cc
names-some (m ∷ []) = cond_both (is_slash m) ([] ∷ [] ∷ []) ((m ∷ []) ∷ []) (λ (t : List Marks). t ≢ []) (λ e none. cc) (λ e none. cc)
names-some (m ∷ n ∷ marks) =
    let some = λ (t : List Marks). t ≢ [] in
    cond_both (is_slash m && is_slash n) (onto_first m (names marks)) (cond (is_slash m) ([] ∷ names (n ∷ marks)) (onto_first m (names (n ∷ marks)))) some
    (λ e. onto m (names marks))
    (λ e. cond_both (is_slash m) ([] ∷ names (n ∷ marks)) (onto_first m (names (n ∷ marks))) some (λ e none. cc) (λ e. onto m (names (n ∷ marks))))
  where
    onto : (m : Piece) (parts : List Marks) → onto_first m parts ≢ []
    onto m [] none = cc
    onto m (part ∷ parts) none = cc

-- ---- names

name-good : (marks : Marks) → list_all is_name_mark marks ≡ true → IsGood marks
name-good marks all = record { all = list_all-implies is_name_mark is_good_mark (λ m is. (and_parts (is_good_mark m) (not (character m == line_feed)) is).0) marks all }

name-feedless : (marks : Marks) → list_all is_name_mark marks ≡ true → list_all (λ c. not (c == line_feed)) (map character marks) ≡ true
name-feedless marks all =
    list_all-map (λ c. not (c == line_feed)) character marks
    ∙ list_all-implies is_name_mark (λ (m : Piece). not (character m == line_feed)) (λ m is. (and_parts (is_good_mark m) (not (character m == line_feed)) is).1) marks all

name-begins : (cs : List ℕ) → is_bad_name (encode_utf8_all cs) ≡ false → begins_name cs ≡ true
name-begins [] fine = cc
name-begins (c ∷ cs) fine = go (c == 47) refl
  where
    go : (b : Bool) → (c == 47) ≡ b → not b ≡ true
    go true e =
        let slash : is_bad_name (encode_utf8_all (c ∷ cs)) ≡ true = rw (eqb-true c 47 e, encode_ascii 47 (lit< tt)) (or_right (is_nothing (47 ∷ encode_utf8_all cs)) true refl) in
        absurd (both_ways (is_bad_name (encode_utf8_all (c ∷ cs))) fine slash)
    go false e = refl

name-is : (marks : Marks) → list_all is_name_mark marks ≡ true → is_bad_name (text_of marks) ≡ false → IsName (text_of marks)
name-is marks all fine =
    let own = kept-trimmed (λ (m : Marks). list_all is_name_mark m ≡ true) (all-kept is_name_mark) marks all in
    let same : chars (text_of marks) ≡ map character (trimmed marks) = spelled-chars (trimmed marks) (name-good (trimmed marks) own) in
    record {
      text = text_of-text marks (name-good marks all);
      begins = ap begins_name same ∙ name-begins (map character (trimmed marks)) fine;
      feedless = ap (list_all (λ c. not (c == line_feed))) same ∙ name-feedless (trimmed marks) own;
    }

names-are : (parts : List Marks) → list_all (list_all is_name_mark) parts ≡ true → list_any is_bad_name (map text_of parts) ≡ false → AreNames (map text_of parts)
names-are [] all fine = tt
names-are (marks ∷ parts) all fine =
    let both = and_parts (list_all is_name_mark marks) (list_all (list_all is_name_mark) parts) all in
    let none = or_parts (is_bad_name (text_of marks)) (list_any is_bad_name (map text_of parts)) fine in
    (name-is marks both.0 none.0, names-are parts both.1 none.1)

-- ---- the path

pub record IsPath (category : List (List ℕ)) : Type 0 where
  pub named : category ≢ []
  pub names : AreNames category

pub path-is : (marks : Marks) → IsGood marks → list_all is_feedless (drop 10 (line_marks marks)) ≡ true → is_bad_path marks ≡ false → IsPath (path marks)
path-is marks good feedless fine =
    let behind : Marks = drop 10 (line_marks marks) in
    let good_behind : IsGood behind = kept-drop IsGood good-kept 10 (line_marks marks) (kept-from IsGood good-kept begins_line marks good) in
    let inner = flat_map-kept is_inner_mark is_name_mark written written-inner behind (list_all-both is_good_mark is_feedless behind good_behind.all feedless) in
    record { named = some (names (path_marks marks)) (names-some (path_marks marks)); names = names-are (names (path_marks marks)) (names-kept is_name_mark (path_marks marks) inner) fine }
  where
    some : (parts : List Marks) → parts ≢ [] → map text_of parts ≢ []
    some [] is none = is refl
    some (part ∷ parts) is none = cc

-- before any category line
pub default-is : IsPath (codes "Default" ∷ [])
unfolding encode_utf8
default-is = record {
  named = λ none. cc;
  names = (record { text = encoded-text (codes "Default") refl refl refl; begins = ap begins_name same; feedless = ap (list_all (λ c. not (c == line_feed))) same }, tt);
}
  where
    same : chars (codes "Default") ≡ codes "Default"
    same = encoded-chars (codes "Default") refl
