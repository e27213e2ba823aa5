-- Worked ranges of questions, at their ends and past them.
use Rattle.std.specs.Prelude.{◌≡◌, ℕ, true, false, List, [], ◌∷◌, map, ℤ, pos, negsuc, codes, refl}
use Rattle.qz_grading.specs.declared.question.Choice.{Choice}
use Rattle.qz_grading.specs.declared.question.Extent.TheVariants as extent
use Rattle.qz_grading.specs.declared.question.Format.TheVariants as format
use Rattle.qz_grading.specs.declared.question.Kind.{Kind}
use Rattle.qz_grading.specs.declared.question.Kind.TheVariants as kind
use Rattle.qz_grading.specs.declared.question.Pair.{Pair}
use Rattle.qz_grading.specs.declared.question.Rich.{Rich}
use Rattle.qz_grading.specs.declared.question.Short.{Short}
use Rattle.qz_grading.specs.Questions.{are_no_longer, has_no_blank, has_numbers_in_range, has_right_choice, has_stem, is_extent, is_short_number, is_weight, kind_texts, least_parts, parts}

abbrev plain : List ℕ → Rich
plain text = record { format = format.Moodle; text = text }

abbrev choice : ℤ → List ℕ → Choice
choice weight text = record { weight = weight; text = plain text; feedback = plain (codes "so") }

abbrev pair : List ℕ → List ℕ → Pair
pair stem text = record { stem = plain stem; answer = text }

abbrev short : ℤ → List ℕ → Short
short weight pattern = record { weight = weight; pattern = pattern; feedback = plain [] }

-- ---- numbers

pub weights : map is_weight (negsuc 10000000 ∷ negsuc 9999999 ∷ pos 10000000 ∷ pos 10000001 ∷ []) ≡ false ∷ true ∷ true ∷ false ∷ []
weights = refl

-- 15 whole digits, and 10 decimals
pub greatest_number : is_short_number (pos 9999999999999999999999999) ≡ true
greatest_number = refl

pub too_great : is_short_number (pos 10000000000000000000000000) ≡ false
too_great = refl

pub too_small : is_short_number (negsuc 9999999999999999999999999) ≡ false
too_small = refl

pub no_tolerance : is_extent (extent.Near (pos 3) (pos 0)) ≡ true
no_tolerance = refl

pub tolerance_below_0 : is_extent (extent.Near (pos 3) (negsuc 0)) ≡ false
tolerance_below_0 = refl

pub one_number : is_extent (extent.Between (pos 3) (pos 3)) ≡ true
one_number = refl

pub out_of_order : is_extent (extent.Between (pos 3) (pos 2)) ≡ false
out_of_order = refl

-- ---- parts

pub least_of_each : map least_parts (kind.Description ∷ kind.Essay ∷ kind.TrueFalse true (plain []) (plain []) ∷ kind.One [] ∷ kind.Several [] ∷ kind.Matching [] ∷ kind.ShortAnswer [] ∷ kind.Numerical [] ∷ []) ≡ 0 ∷ 0 ∷ 0 ∷ 2 ∷ 2 ∷ 2 ∷ 1 ∷ 1 ∷ []
least_of_each = refl

abbrev one_right : Kind
one_right = kind.One (choice (pos 10000000) (codes "a") ∷ choice (pos 0) (codes "b") ∷ [])

abbrev none_right : Kind
none_right = kind.One (choice (pos 9999999) (codes "a") ∷ choice (pos 0) (codes "b") ∷ [])

pub two_choices : parts one_right ≡ 2
two_choices = refl

pub a_right_choice : has_right_choice one_right ≡ true
a_right_choice = refl

pub no_right_choice : has_right_choice none_right ≡ false
no_right_choice = refl

-- where several may be picked, none need be
pub none_needed : has_right_choice (kind.Several (choice (pos 5000000) (codes "a") ∷ choice (pos 5000000) (codes "b") ∷ [])) ≡ true
none_needed = refl

pub a_blank_choice : has_no_blank (kind.One (choice (pos 10000000) (codes "a") ∷ choice (pos 0) (codes " \t\n") ∷ [])) ≡ false
a_blank_choice = refl

pub a_blank_pattern : has_no_blank (kind.ShortAnswer (short (pos 10000000) (codes " ") ∷ [])) ≡ false
a_blank_pattern = refl

-- an answer of a pair isn't blank, and a stem may be, but not each
pub a_blank_answer : has_no_blank (kind.Matching (pair (codes "a") (codes "x") ∷ pair (codes "b") [] ∷ [])) ≡ false
a_blank_answer = refl

pub a_blank_stem : has_no_blank (kind.Matching (pair (codes "a") (codes "x") ∷ pair [] (codes "y") ∷ [])) ≡ true
a_blank_stem = refl

pub one_stem : has_stem (kind.Matching (pair (codes "a") (codes "x") ∷ pair [] (codes "y") ∷ [])) ≡ true
one_stem = refl

pub no_stem : has_stem (kind.Matching (pair [] (codes "x") ∷ pair (codes " ") (codes "y") ∷ [])) ≡ false
no_stem = refl

pub too_great_a_weight : has_numbers_in_range (kind.ShortAnswer (short (pos 10000001) (codes "a") ∷ [])) ≡ false
too_great_a_weight = refl

pub too_great_a_choice : has_numbers_in_range (kind.Several (choice (pos 0) (codes "a") ∷ choice (negsuc 10000000) (codes "b") ∷ [])) ≡ false
too_great_a_choice = refl

pub too_great_an_extent : has_numbers_in_range (kind.Numerical (record { weight = pos 0; extent = extent.Between (pos 3) (pos 2); feedback = plain [] } ∷ [])) ≡ false
too_great_an_extent = refl

-- ---- texts

pub texts_of_choices : kind_texts one_right ≡ codes "a" ∷ codes "so" ∷ codes "b" ∷ codes "so" ∷ []
texts_of_choices = refl

pub texts_of_pairs : kind_texts (kind.Matching (pair (codes "a") (codes "x") ∷ pair [] (codes "y") ∷ [])) ≡ codes "a" ∷ codes "x" ∷ [] ∷ codes "y" ∷ []
texts_of_pairs = refl

pub texts_of_both_sides : kind_texts (kind.TrueFalse true (plain (codes "no")) (plain (codes "yes"))) ≡ codes "no" ∷ codes "yes" ∷ []
texts_of_both_sides = refl

pub as_long : are_no_longer 3 (codes "abc" ∷ []) ≡ true
as_long = refl

pub longer : are_no_longer 3 (codes "a" ∷ codes "abcd" ∷ []) ≡ false
longer = refl
