-- Arrows, and where there are none.
use Rattle.std.proofs.Common.{◌≡◌, ℕ, Bool, true, false, cond, not, ◌&&◌, ◌||◌, ◌==◌, List, [], ◌∷◌, ◌++◌, map, refl, ap, ◌∙◌}
use Rattle.std.specs.List.{list_all}
use Rattle.std.specs.Str.{chars}
use Rattle.std.proofs.Math.Bool.{and-false}
use Rattle.std.proofs.lemmas.Bool.{or_parts, and_parts, not-true}
use Rattle.std.proofs.lemmas.List.{map-append}
use Rattle.gift_lex.specs.declared.block.Piece.{Piece}
use Rattle.gift_lex.specs.declared.block.Piece.TheVariants.{Plain}
use Rattle.gift_lex.specs.Blocks as lex
use Rattle.qz_grading.specs.declared.question.Format.{Format}
use Rattle.qz_grading.specs.declared.question.Format.TheVariants as format
use Rattle.qz_grading.specs.declared.question.Rich.{Rich}
use Rattle.qz_grading.specs.Canonical.{format_mark}
use Rattle.gift_read.specs.declared.places.Landmark.TheVariants as landmark
use Rattle.gift_read.specs.Places.{Marks, character, is_at, occurs}
use Rattle.gift_laws.specs.Written.{has_arrow}
use Rattle.gift_laws.proofs.ReadBackPlaces.{Passes, passes-nil, passes-cons}
use Rattle.gift_laws.proofs.ReadBackMarks.{text_marks-characters, single-characters}
use Rattle.gift_laws.proofs.ReadBackRich.{marks_of_text, is_marked, rich_marks}

pub occurs-arrow : (marks : Marks) → occurs (is_at landmark.Arrow) marks ≡ has_arrow (map character marks)
occurs-arrow [] = refl
occurs-arrow (m ∷ []) = go (character m == 45)
  where
    go : (b : Bool) → ((b && false) || false) ≡ false
    go true = refl
    go false = refl
occurs-arrow (m ∷ n ∷ marks) = rw (occurs-arrow (n ∷ marks)) (go (character m == 45) (character n == 62))
  where
    go : (b c : Bool) → ((b && (c && true)) || has_arrow (map character (n ∷ marks))) ≡ ((b && c) || has_arrow (map character (n ∷ marks)))
    go true true = refl
    go true false = refl
    go false c = refl

-- a space stands behind
pub passes-arrow : (marks : Marks) → occurs (is_at landmark.Arrow) marks ≡ false → Passes (is_at landmark.Arrow) (marks ++ Plain 32 ∷ [])
passes-arrow [] none = passes-cons (is_at landmark.Arrow) (Plain 32) [] (λ ys. refl) (passes-nil (is_at landmark.Arrow))
passes-arrow (m ∷ []) none =
    passes-cons (is_at landmark.Arrow) m (Plain 32 ∷ []) (λ ys. and-false (character m == 45)) (passes-arrow [] refl)
passes-arrow (m ∷ n ∷ marks) none =
    let parts = or_parts (is_at landmark.Arrow (m ∷ n ∷ marks)) (occurs (is_at landmark.Arrow) (n ∷ marks)) none in
    passes-cons (is_at landmark.Arrow) m (n ∷ marks ++ Plain 32 ∷ []) (λ ys. parts.0) (passes-arrow (n ∷ marks) parts.1)

-- no arrow in a stem as it is written
mark_arrow : (f : Format) (cs : List ℕ) → has_arrow (format_mark f ++ cs) ≡ has_arrow cs
mark_arrow format.Moodle [] = refl
mark_arrow format.Moodle (c ∷ cs) = refl
mark_arrow format.Html [] = refl
mark_arrow format.Html (c ∷ cs) = refl
mark_arrow format.Plain [] = refl
mark_arrow format.Plain (c ∷ cs) = refl
mark_arrow format.Markdown [] = refl
mark_arrow format.Markdown (c ∷ cs) = refl

pub rich-arrow : (f : Format) (r : Rich) → has_arrow (chars r.text) ≡ false → occurs (is_at landmark.Arrow) (rich_marks f r) ≡ false
rich-arrow f r none =
    occurs-arrow (rich_marks f r)
    ∙ ap has_arrow (map-append character (map lex.single (cond (is_marked f r) (format_mark r.format) [])) (marks_of_text r.text))
    ∙ ap (λ (t : List ℕ). has_arrow (t ++ map character (marks_of_text r.text))) (single-characters (cond (is_marked f r) (format_mark r.format) []))
    ∙ ap (λ (t : List ℕ). has_arrow (cond (is_marked f r) (format_mark r.format) [] ++ t)) (text_marks-characters (chars r.text))
    ∙ go (is_marked f r)
  where
    go : (b : Bool) → has_arrow (cond b (format_mark r.format) [] ++ chars r.text) ≡ false
    go true = mark_arrow r.format (chars r.text) ∙ none
    go false = none

-- a mark that is no part of an arrow stands between
pub arrow-around : (xs : Marks) (m : Piece) (ys : Marks) → (character m == 45) ≡ false → (character m == 62) ≡ false → occurs (is_at landmark.Arrow) xs ≡ false → occurs (is_at landmark.Arrow) ys ≡ false → occurs (is_at landmark.Arrow) (xs ++ m ∷ ys) ≡ false
arrow-around [] m ys minus greater none behind = rw (minus, behind) refl
arrow-around (x ∷ []) m ys minus greater none behind = rw (arrow-around [] m ys minus greater refl behind, greater, and-false (character x == 45)) refl
arrow-around (x ∷ y ∷ xs) m ys minus greater none behind =
    let parts = or_parts (is_at landmark.Arrow (x ∷ y ∷ xs)) (occurs (is_at landmark.Arrow) (y ∷ xs)) none in
    rw (parts.0, arrow-around (y ∷ xs) m ys minus greater parts.1 behind) refl

-- no greater sign, no arrow
pub arrow-without : (cs : List ℕ) → list_all (λ c. not (c == 62)) cs ≡ true → occurs (is_at landmark.Arrow) (map Plain cs) ≡ false
arrow-without [] none = refl
arrow-without (c ∷ []) none = rw (and-false (c == 45)) refl
arrow-without (c ∷ d ∷ cs) none =
    let parts = and_parts (not (c == 62)) (list_all (λ c. not (c == 62)) (d ∷ cs)) none in
    let next = and_parts (not (d == 62)) (list_all (λ c. not (c == 62)) cs) parts.1 in
    rw (not-true (d == 62) next.0, and-false (c == 45), arrow-without (d ∷ cs) parts.1) refl
