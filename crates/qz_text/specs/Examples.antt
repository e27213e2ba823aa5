-- Worked rows: patterns that fit, and patterns that don't.
use Rattle.std.specs.Prelude.{◌≡◌, ℕ, true, false, refl, List, [], ◌∷◌, encode_utf8_all, codes}
use Rattle.std.specs.List.{list_any}
use Rattle.qz_text.specs.Patterns.{pattern_fits, fits_parts, endings, folded, is_blank, plain_parts}
use Rattle.qz_text.specs.Computing.{patterns}

star-for_letters : pattern_fits (codes "  Stra*e ") (codes "STRASSE") ≡ true
unfolding patterns
star-for_letters = refl

star-for_a_sign : pattern_fits (codes "  Stra*e ") (codes "stra?e") ≡ true
unfolding patterns
star-for_a_sign = refl

star-for_none : pattern_fits (codes "*a**b*") (codes "AB") ≡ true
unfolding patterns
star-for_none = refl

empty_ending : (text : List ℕ) → list_any (fits_parts ([] ∷ [])) (endings text) ≡ true
empty_ending [] = refl
empty_ending (c ∷ cs) = empty_ending cs

-- a star alone fits every text
star-for_all : (typed : List ℕ) → pattern_fits (codes "*") typed ≡ true
unfolding patterns
star-for_all typed = empty_ending (folded typed)

all-anchored : pattern_fits (codes "a*b*c") (codes "abcb") ≡ false
unfolding patterns
all-anchored = refl

sharp_s-is_two : pattern_fits (encode_utf8_all (codes "straße")) (codes "STRASSE") ≡ true
unfolding patterns
sharp_s-is_two = refl

escaped_star-fits : pattern_fits (codes "a\\*b") (codes "a*b") ≡ true
unfolding patterns
escaped_star-fits = refl

escaped_star-is_plain : pattern_fits (codes "a\\*b") (codes "axb") ≡ false
unfolding patterns
escaped_star-is_plain = refl

-- a backslash that stands for itself, then an escaped star
two_backslashes : plain_parts (codes "\\\\*") ≡ (codes "\\*") ∷ []
two_backslashes = refl

outer_space : pattern_fits (encode_utf8_all (0xA0 ∷ 0x61 ∷ 0x2003 ∷ [])) (codes "\ta\n") ≡ true
unfolding patterns
outer_space = refl

trimmed-before_escapes : pattern_fits (codes "\\* ") (codes " *") ≡ true
unfolding patterns
trimmed-before_escapes = refl

blank-wide_space : is_blank (encode_utf8_all (0x3000 ∷ 0x20 ∷ [])) ≡ true
unfolding patterns
blank-wide_space = refl
