-- Worked texts: the canonical form of questions of each kind.
use Rattle.std.specs.Fmt.{digits}
use Rattle.std.specs.Prelude.{◌≡◌, ℕ, true, false, List, [], ◌∷◌, ◌++◌, ℤ, pos, negsuc, codes, refl}
use Rattle.qz_grading.specs.declared.question.Choice.{Choice}
use Rattle.qz_grading.specs.declared.question.Extent.{Extent}
use Rattle.qz_grading.specs.declared.question.Extent.TheVariants as extent
use Rattle.qz_grading.specs.declared.question.Format.TheVariants as format
use Rattle.qz_grading.specs.declared.question.Kind.{Kind}
use Rattle.qz_grading.specs.declared.question.Kind.TheVariants as kind
use Rattle.qz_grading.specs.declared.question.Num.{Num}
use Rattle.qz_grading.specs.declared.question.Pair.{Pair}
use Rattle.qz_grading.specs.declared.question.Question.{Question}
use Rattle.qz_grading.specs.declared.question.Rich.{Rich}
use Rattle.qz_grading.specs.declared.question.Short.{Short}
use Rattle.qz_grading.specs.Canonical.{canonical, canonical_question, canonical_size, escaped, extent_text, weight_text}

abbrev moodle : List ℕ → Rich
moodle text = record { format = format.Moodle; text = text }

abbrev html : List ℕ → Rich
html text = record { format = format.Html; text = text }

abbrev asked : List ℕ → Kind → Question
asked text k = record { name = text; text = moodle text; general = moodle []; kind = k; penalty = pos 3333333; hints = [] }

abbrev choice : ℤ → List ℕ → List ℕ → Choice
choice weight text feedback = record { weight = weight; text = html text; feedback = html feedback }

abbrev newline : List ℕ
newline = 10 ∷ []

abbrev tab : List ℕ
tab = 9 ∷ []

pub a_true_one : canonical_question (asked (codes "Sky") (kind.TrueFalse true (moodle []) (moodle []))) ≡ codes "::Sky::Sky{TRUE}" ++ newline ++ newline
a_true_one = refl

pub a_false_one : canonical_question (asked (codes "Sky") (kind.TrueFalse false (moodle []) (moodle (codes "Yes")))) ≡ codes "::Sky::Sky{FALSE##Yes}" ++ newline ++ newline
a_false_one = refl

pub an_essay : canonical_question (asked (codes "Write.") kind.Essay) ≡ codes "::Write.::Write.{}" ++ newline ++ newline
an_essay = refl

-- a description has no answer part, and signs get a backslash
pub a_description : canonical_question (asked (codes "a=b") kind.Description) ≡ codes "::a\\=b::a\\=b" ++ newline ++ newline
a_description = refl

-- each sign, and no other
pub each_sign : escaped (codes "~=#{}:\\ %*>[") ≡ codes "\\~\\=\\#\\{\\}\\:\\\\ %*>["
each_sign = refl

-- one of three choices is right, one half right
abbrev capital : Question
capital = record {
  name = codes "Capital";
  text = html (codes "<p>Capital of France?</p>");
  general = html (codes "See page 4");
  kind = kind.One (choice (pos 10000000) (codes "Paris") (codes "Yes") ∷ choice (pos 0) (codes "Lyon") (codes "No") ∷ choice (pos 5000000) (codes "Paris area") [] ∷ []);
  penalty = pos 3333333;
  hints = [];
}

abbrev capital_text : List ℕ
capital_text =
    codes "::Capital::[html]<p>Capital of France?</p>{" ++ newline
    ++ tab ++ codes "=Paris#Yes" ++ newline
    ++ tab ++ codes "~Lyon#No" ++ newline
    ++ tab ++ codes "~%50%Paris area" ++ newline
    ++ tab ++ codes "####See page 4" ++ newline
    ++ codes "}" ++ newline ++ newline

pub a_choice : canonical_question capital ≡ capital_text
unfolding digits
a_choice = refl

pub under_a_category : canonical (record { items = record { category = codes "$course$" ∷ codes "top" ∷ codes "Week 1/2" ∷ []; question = capital } ∷ [] }) ≡ codes "$CATEGORY: $course$/top/Week 1//2" ++ newline ++ newline ++ capital_text
unfolding digits
under_a_category = refl

-- in the category that stands before any category line
pub by_default : canonical (record { items = record { category = codes "Default" ∷ []; question = capital } ∷ [] }) ≡ capital_text
unfolding digits
by_default = refl

-- ---- weights and numbers

pub a_third : weight_text (negsuc 3333332) ≡ codes "%-33.33333%"
unfolding digits
a_third = refl

pub five_hundredths : weight_text (pos 5000) ≡ codes "%0.05%"
unfolding digits
five_hundredths = refl

pub around_pi : extent_text (extent.Near (pos 31400000000) (pos 100000000)) ≡ codes "3.14:0.01"
unfolding digits
around_pi = refl

pub exactly_two : extent_text (extent.Near (negsuc 19999999999) (pos 0)) ≡ codes "-2"
unfolding digits
exactly_two = refl

pub from_one_to_two : extent_text (extent.Between (pos 10000000000) (pos 20000000000)) ≡ codes "1..2"
unfolding digits
from_one_to_two = refl

-- ---- pieces of the other kinds

abbrev plain_choice : ℤ → List ℕ → Choice
plain_choice weight text = record { weight = weight; text = moodle text; feedback = moodle [] }

-- of several choices each has a tilde, and a weight of 0 isn't written
pub several_choices : canonical_question (asked (codes "Q") (kind.Several (plain_choice (pos 10000000) (codes "a") ∷ plain_choice (pos 0) (codes "b") ∷ plain_choice (negsuc 9999999) (codes "c") ∷ []))) ≡
    codes "::Q::Q{" ++ newline
    ++ tab ++ codes "~%100%a" ++ newline
    ++ tab ++ codes "~b" ++ newline
    ++ tab ++ codes "~%-100%c" ++ newline
    ++ codes "}" ++ newline ++ newline
unfolding digits
several_choices = refl

-- the first of full weight has the equals sign, and a second one has its weight
pub two_right_ones : canonical_question (asked (codes "Q") (kind.One (plain_choice (pos 0) (codes "a") ∷ plain_choice (pos 10000000) (codes "b") ∷ plain_choice (pos 10000000) (codes "c") ∷ []))) ≡
    codes "::Q::Q{" ++ newline
    ++ tab ++ codes "~a" ++ newline
    ++ tab ++ codes "=b" ++ newline
    ++ tab ++ codes "~%100%c" ++ newline
    ++ codes "}" ++ newline ++ newline
unfolding digits
two_right_ones = refl

abbrev pair : List ℕ → List ℕ → Pair
pair stem text = record { stem = moodle stem; answer = text }

-- a stem may be blank, and a sign of an answer gets a backslash
pub some_pairs : canonical_question (asked (codes "M") (kind.Matching (pair (codes "a") (codes "x") ∷ pair [] (codes "y=1") ∷ []))) ≡
    codes "::M::M{" ++ newline
    ++ tab ++ codes "=a -> x" ++ newline
    ++ tab ++ codes "= -> y\\=1" ++ newline
    ++ codes "}" ++ newline ++ newline
some_pairs = refl

abbrev short : ℤ → List ℕ → List ℕ → Short
short weight pattern feedback = record { weight = weight; pattern = pattern; feedback = moodle feedback }

-- a weight is written where it isn't 100, or where the pattern begins with a percent sign
pub short_answers : canonical_question (asked (codes "R") (kind.ShortAnswer (short (pos 10000000) (codes "ran*") (codes "Yes") ∷ short (pos 5000000) (codes "a=b") [] ∷ short (pos 10000000) (codes "%5") [] ∷ []))) ≡
    codes "::R::R{" ++ newline
    ++ tab ++ codes "=ran*#Yes" ++ newline
    ++ tab ++ codes "=%50%a\\=b" ++ newline
    ++ tab ++ codes "=%100%%5" ++ newline
    ++ codes "}" ++ newline ++ newline
unfolding digits
short_answers = refl

abbrev num : ℤ → Extent → List ℕ → Num
num weight taken feedback = record { weight = weight; extent = taken; feedback = moodle feedback }

pub some_numbers : canonical_question (asked (codes "N") (kind.Numerical (num (pos 10000000) (extent.Near (pos 31400000000) (pos 100000000)) [] ∷ num (pos 5000000) (extent.Between (pos 30000000000) (pos 40000000000)) (codes "near") ∷ num (pos 0) extent.Any (codes "no") ∷ []))) ≡
    codes "::N::N{#" ++ newline
    ++ tab ++ codes "=3.14:0.01" ++ newline
    ++ tab ++ codes "=%50%3..4#near" ++ newline
    ++ tab ++ codes "=%0%*#no" ++ newline
    ++ codes "}" ++ newline ++ newline
unfolding digits
some_numbers = refl

-- ---- formats and general feedback

-- a format mark where the format isn't the question's, or where the text begins with a bracket; a line feed as backslash and n
pub formats : canonical_question (record (asked (codes "F") (kind.One (plain_choice (pos 10000000) (codes "[a]") ∷ choice (pos 0) (codes "b") (codes "c") ∷ []))) { text = moodle (codes "[1]" ++ newline ++ codes "2") }) ≡
    codes "::F::[moodle][1]\\n2{" ++ newline
    ++ tab ++ codes "=[moodle][a]" ++ newline
    ++ tab ++ codes "~[html]b#[html]c" ++ newline
    ++ codes "}" ++ newline ++ newline
formats = refl

-- an essay with general feedback has lines
pub essay_with_feedback : canonical_question (record (asked (codes "E") kind.Essay) { general = moodle (codes "Well") }) ≡
    codes "::E::E{" ++ newline
    ++ tab ++ codes "####Well" ++ newline
    ++ codes "}" ++ newline ++ newline
essay_with_feedback = refl

pub true_false_with_all : canonical_question (record (asked (codes "T") (kind.TrueFalse true (moodle (codes "no")) (moodle (codes "yes")))) { general = moodle (codes "all") }) ≡ codes "::T::T{TRUE#no#yes####all}" ++ newline ++ newline
true_false_with_all = refl

pub true_false_with_one : canonical_question (asked (codes "T") (kind.TrueFalse true (moodle (codes "no")) (moodle []))) ≡ codes "::T::T{TRUE#no}" ++ newline ++ newline
true_false_with_one = refl

-- ---- banks and sizes

abbrev essay : List ℕ → Question
essay text = asked text kind.Essay

-- a category stands before a question whose category isn't that of the question before
pub categories :
    canonical (record { items = record { category = codes "A" ∷ []; question = essay (codes "1") } ∷ record { category = codes "A" ∷ []; question = essay (codes "2") } ∷ record { category = codes "A" ∷ codes "B" ∷ []; question = essay (codes "3") } ∷ record { category = codes "Default" ∷ []; question = essay (codes "4") } ∷ [] })
    ≡ codes "$CATEGORY: A" ++ newline ++ newline
    ++ codes "::1::1{}" ++ newline ++ newline
    ++ codes "::2::2{}" ++ newline ++ newline
    ++ codes "$CATEGORY: A/B" ++ newline ++ newline
    ++ codes "::3::3{}" ++ newline ++ newline
    ++ codes "$CATEGORY: Default" ++ newline ++ newline
    ++ codes "::4::4{}" ++ newline ++ newline
categories = refl

-- the text has 10 bytes with its blank line, and the hints have 5
pub size_with_hints : canonical_size (record (essay (codes "1")) { hints = codes "one" ∷ codes "2!" ∷ [] }) ≡ 15
size_with_hints = refl
