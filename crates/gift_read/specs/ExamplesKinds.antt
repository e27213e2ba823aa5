-- Worked texts: each kind of question, what is easily misread, and categories.
use Rattle.std.specs.Prelude.{◌≡◌, ℕ, Bool, true, false, List, [], ◌∷◌, ℤ, pos, neg_ℤ, codes, replicate, refl}
use Rattle.qz_grading.specs.declared.question.Choice.{Choice}
use Rattle.qz_grading.specs.declared.question.Extent.{Extent}
use Rattle.qz_grading.specs.declared.question.Extent.TheVariants as extent
use Rattle.qz_grading.specs.declared.question.Kind.TheVariants as kind
use Rattle.qz_grading.specs.declared.question.Num.{Num}
use Rattle.qz_grading.specs.declared.question.Pair.{Pair}
use Rattle.qz_grading.specs.declared.question.Question.{Question}
use Rattle.qz_grading.specs.declared.question.Rich.{Rich}
use Rattle.qz_grading.specs.declared.question.Short.{Short}
use Rattle.gift_read.specs.Texts.{or_question}
use Rattle.gift_read.specs.Computing.{gift}
use Rattle.gift_read.specs.Gift.{reading}
use Rattle.gift_read.specs.Examples.{moodle, html, asked, read_as, in_category, one, at_fault}

abbrev choice : ℤ → List ℕ → List ℕ → Choice
choice weight text feedback = record { weight = weight; text = moodle text; feedback = moodle feedback }

abbrev short : ℤ → List ℕ → List ℕ → Short
short weight pattern feedback = record { weight = weight; pattern = pattern; feedback = moodle feedback }

abbrev num : ℤ → Extent → List ℕ → Num
num weight extent feedback = record { weight = weight; extent = extent; feedback = moodle feedback }

abbrev pair : List ℕ → List ℕ → Pair
pair stem answer = record { stem = moodle stem; answer = answer }

abbrev true_false : List ℕ → Bool → Rich → Rich → Question
true_false text right on_wrong on_right = record {
  name = or_question text;
  text = moodle text;
  general = moodle [];
  kind = kind.TrueFalse right on_wrong on_right;
  penalty = pos 10000000;
  hints = [];
}

-- ---- kinds

pub a_description : reading (codes "Read this.") ≡ one (asked (codes "Read this.") (codes "Read this.") kind.Description)
unfolding gift
a_description = refl

pub an_essay : reading (codes "Write.{}") ≡ one (asked (codes "Write.") (codes "Write.") kind.Essay)
unfolding gift
an_essay = refl

-- also where its part has an escaped line feed alone
pub an_essay_of_white_space : reading (codes "Write.{ \\n }") ≡ one (asked (codes "Write.") (codes "Write.") kind.Essay)
unfolding gift
an_essay_of_white_space = refl

pub an_essay_with_feedback : reading (codes "Write.{####Why}") ≡ one (record (asked (codes "Write.") (codes "Write.") kind.Essay) { general = moodle (codes "Why") })
unfolding gift
an_essay_with_feedback = refl

pub a_true_one : reading (codes "Sky{ T }") ≡ one (true_false (codes "Sky") true (moodle []) (moodle []))
unfolding gift
a_true_one = refl

-- with a third hash
pub a_false_one : reading (codes "Sky{FALSE#No#Yes#}") ≡ at_fault 1 10
unfolding gift
a_false_one = refl

pub a_false_one_with_feedback : reading (codes "Sky{FALSE#No#Yes}") ≡ one (true_false (codes "Sky") false (moodle (codes "No")) (moodle (codes "Yes")))
unfolding gift
a_false_one_with_feedback = refl

pub one_choice : reading (codes "A{=b~c~%-50.5%d}") ≡ one (asked (codes "A") (codes "A") (kind.One (choice (pos 10000000) (codes "b") [] ∷ choice (pos 0) (codes "c") [] ∷ choice (neg_ℤ (pos 5050000)) (codes "d") [] ∷ [])))
unfolding gift
one_choice = refl

pub several_choices : reading (codes "A{~%50%b#x~%50.%c~d}") ≡ one (asked (codes "A") (codes "A") (kind.Several (choice (pos 5000000) (codes "b") (codes "x") ∷ choice (pos 5000000) (codes "c") [] ∷ choice (pos 0) (codes "d") [] ∷ [])))
unfolding gift
several_choices = refl

pub three_thirds : reading (codes "Q {~%33.33333%a ~%33.33333%b ~%33.33333%c}") ≡ one (asked (codes "Q") (codes "Q") (kind.Several (choice (pos 3333333) (codes "a") [] ∷ choice (pos 3333333) (codes "b") [] ∷ choice (pos 3333333) (codes "c") [] ∷ [])))
unfolding gift
three_thirds = refl

pub pairs : reading (codes "A{=b->c =d -> e#f = -> g}") ≡ one (asked (codes "A") (codes "A") (kind.Matching (pair (codes "b") (codes "c") ∷ pair (codes "d") (codes "e#f") ∷ pair [] (codes "g") ∷ [])))
unfolding gift
pairs = refl

-- a pattern names no format
pub short_answers : reading (codes "Two{=x=%50%Y Z#no=[html]z}") ≡ one (asked (codes "Two") (codes "Two") (kind.ShortAnswer (short (pos 10000000) (codes "x") [] ∷ short (pos 5000000) (codes "Y Z") (codes "no") ∷ short (pos 10000000) (codes "[html]z") [] ∷ [])))
unfolding gift
short_answers = refl

pub short_answer_without_a_sign : reading (codes "Two{x}") ≡ one (asked (codes "Two") (codes "Two") (kind.ShortAnswer (short (pos 10000000) (codes "x") [] ∷ [])))
unfolding gift
short_answer_without_a_sign = refl

pub numbers : reading (codes "A{#=%50%3 : .5#a=1..2=*#b~#c}") ≡ one (asked (codes "A") (codes "A") (kind.Numerical (num (pos 5000000) (extent.Near (pos 30000000000) (pos 5000000000)) (codes "a") ∷ num (pos 10000000) (extent.Between (pos 10000000000) (pos 20000000000)) [] ∷ num (pos 10000000) extent.Any (codes "b") ∷ num (pos 0) extent.Any (codes "c") ∷ [])))
unfolding gift
numbers = refl

pub number_without_a_sign : reading (codes "A{# 1e2 }") ≡ one (asked (codes "A") (codes "A") (kind.Numerical (num (pos 10000000) (extent.Near (pos 1000000000000) (pos 0)) [] ∷ [])))
unfolding gift
number_without_a_sign = refl

pub other_numbers_alone : reading (codes "A{#~#a#b}") ≡ one (asked (codes "A") (codes "A") (kind.Numerical (num (pos 0) extent.Any (codes "a#b") ∷ [])))
unfolding gift
other_numbers_alone = refl

-- a number is judged behind its escapes
pub escaped_tolerance : reading (codes "A{#3\\:1}") ≡ one (asked (codes "A") (codes "A") (kind.Numerical (num (pos 10000000) (extent.Near (pos 30000000000) (pos 10000000000)) [] ∷ [])))
unfolding gift
escaped_tolerance = refl

-- ---- what is easily misread

-- and its line feeds stay
pub a_comment_is_a_space : reading (codes "a\n// {\nb") ≡ one (asked (codes "a b") (codes "a\n \nb") kind.Description)
unfolding gift
a_comment_is_a_space = refl

pub text_behind : reading (codes "Two {=x} four") ≡ one (asked (codes "Two _____ four") (codes "Two _____ four") (kind.ShortAnswer (short (pos 10000000) (codes "x") [] ∷ [])))
unfolding gift
text_behind = refl

pub a_format_behind_white_space : reading (codes "  [html] x ") ≡ one (record (asked (codes "x") [] kind.Description) { text = html (codes "x"); general = html [] })
unfolding gift
a_format_behind_white_space = refl

pub a_format_alone : reading (codes "::a::[html]") ≡ one (record (asked (codes "a") [] kind.Description) { text = html []; general = html [] })
unfolding gift
a_format_alone = refl

pub white_space_before_a_weight : reading (codes "A{~ %50%b~c}") ≡ one (asked (codes "A") (codes "A") (kind.Several (choice (pos 5000000) (codes "b") [] ∷ choice (pos 0) (codes "c") [] ∷ [])))
unfolding gift
white_space_before_a_weight = refl

-- are no weight
pub percent_signs_alone : reading (codes "A{~%%b~%-%c}") ≡ one (asked (codes "A") (codes "A") (kind.Several (choice (pos 0) (codes "%%b") [] ∷ choice (pos 0) (codes "%-%c") [] ∷ [])))
unfolding gift
percent_signs_alone = refl

-- the second is text
pub two_weights : reading (codes "A{=%50%%20%b}") ≡ one (asked (codes "A") (codes "A") (kind.ShortAnswer (short (pos 5000000) (codes "%20%b") [] ∷ [])))
unfolding gift
two_weights = refl

-- an empty name counts as none
pub three_colons : reading (codes "::::a::b") ≡ one (asked (codes "a::b") (codes "a::b") kind.Description)
unfolding gift
three_colons = refl

pub a_name_with_a_colon : reading (codes ":::a::b") ≡ one (asked (codes ":a") (codes "b") kind.Description)
unfolding gift
a_name_with_a_colon = refl

pub a_name_behind_a_comment : reading (codes "// c\n ::a::b") ≡ one (asked (codes "a") (codes "b") kind.Description)
unfolding gift
a_name_behind_a_comment = refl

pub a_name_made : reading (codes "a \n b\\n{}") ≡ one (asked (codes "a b") (codes "a \n b") kind.Essay)
unfolding gift
a_name_made = refl

-- the name is a word then
pub no_text : reading (codes "{T}") ≡ one (true_false [] true (moodle []) (moodle []))
unfolding gift
no_text = refl

-- the first stays
pub five_hashes : reading (codes "A{T#####b}") ≡ one (record (true_false (codes "A") true (moodle []) (moodle [])) { general = moodle (codes "b") })
unfolding gift
five_hashes = refl

-- the last counts, and what stands before is no feedback of two hashes
pub two_general_feedbacks : reading (codes "A{T####b####c}") ≡ at_fault 1 10
unfolding gift
two_general_feedbacks = refl

pub marks_in_a_feedback : reading (codes "A{=a#x=y ~b}") ≡ one (asked (codes "A") (codes "A") (kind.One (choice (pos 10000000) (codes "a") (codes "x") ∷ choice (pos 10000000) (codes "y") [] ∷ choice (pos 0) (codes "b") [] ∷ [])))
unfolding gift
marks_in_a_feedback = refl

pub choices_64 : reading (codes "a{~b~b~b~b~b~b~b~b~b~b~b~b~b~b~b~b~b~b~b~b~b~b~b~b~b~b~b~b~b~b~b~b~b~b~b~b~b~b~b~b~b~b~b~b~b~b~b~b~b~b~b~b~b~b~b~b~b~b~b~b~b~b~b~b}") ≡ one (asked (codes "a") (codes "a") (kind.Several (replicate 64 (choice (pos 0) (codes "b") []))))
unfolding gift
choices_64 = refl

-- begins no piece
pub an_escaped_sign : reading (codes "A{=a#x\\=y ~b}") ≡ one (asked (codes "A") (codes "A") (kind.One (choice (pos 10000000) (codes "a") (codes "x=y") ∷ choice (pos 0) (codes "b") [] ∷ [])))
unfolding gift
an_escaped_sign = refl

pub a_brace_in_the_part : reading (codes "A{=a{b~c}") ≡ one (asked (codes "A") (codes "A") (kind.One (choice (pos 10000000) (codes "a{b") [] ∷ choice (pos 0) (codes "c") [] ∷ [])))
unfolding gift
a_brace_in_the_part = refl

pub an_escaped_line_feed_is_no_category : reading (codes "\\n$CATEGORY:x") ≡ one (asked (codes "$CATEGORY:x") (codes "$CATEGORY:x") kind.Description)
unfolding gift
an_escaped_line_feed_is_no_category = refl

-- ---- categories

pub a_category_holds : reading (codes "a\n\n$CATEGORY: x / y\nb\n\nc") ≡ read_as (in_category (codes "Default" ∷ []) (asked (codes "a") (codes "a") kind.Description) ∷ in_category (codes "x" ∷ codes "y" ∷ []) (asked (codes "b") (codes "b") kind.Description) ∷ in_category (codes "x" ∷ codes "y" ∷ []) (asked (codes "c") (codes "c") kind.Description) ∷ [])
unfolding gift
a_category_holds = refl

-- two are one in a name
pub slashes : reading (codes "$CATEGORY:a//b///c\nd") ≡ read_as (in_category (codes "a/b/" ∷ codes "c" ∷ []) (asked (codes "d") (codes "d") kind.Description) ∷ [])
unfolding gift
slashes = refl

-- stand for themselves
pub backslashes_in_a_path : reading (codes "$CATEGORY:a\\:\\n\nd") ≡ read_as (in_category (codes "a\\:\\n" ∷ []) (asked (codes "d") (codes "d") kind.Description) ∷ [])
unfolding gift
backslashes_in_a_path = refl
