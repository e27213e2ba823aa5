-- Worked answers: what responses to each kind of question are worth, shapes, and texts.
use Rattle.std.specs.Prelude.{◌≡◌, true, false, List, [], ◌∷◌, ℕ, ℤ, pos, negsuc, codes, refl}
use Rattle.qz_grading.specs.declared.outcome.Behaviour.TheVariants as behaviour
use Rattle.std.specs.Fmt.{digits}
use Rattle.qz_decimal.specs.Decimals.{decimal_in, digits_in, tens_in, exact_size}
use Rattle.qz_text.specs.Computing.{patterns}
use Rattle.qz_grading.specs.declared.question.Choice.{Choice}
use Rattle.qz_grading.specs.declared.question.Extent.{Extent}
use Rattle.qz_grading.specs.declared.question.Extent.TheVariants as extent
use Rattle.qz_grading.specs.declared.question.Format.TheVariants.{Moodle}
use Rattle.qz_grading.specs.declared.question.Kind.{Kind}
use Rattle.qz_grading.specs.declared.question.Kind.TheVariants as kind
use Rattle.qz_grading.specs.declared.question.Num.{Num}
use Rattle.qz_grading.specs.declared.question.Pair.{Pair}
use Rattle.qz_grading.specs.declared.question.Question.{Question}
use Rattle.qz_grading.specs.declared.question.Rich.{Rich}
use Rattle.qz_grading.specs.declared.question.Short.{Short}
use Rattle.qz_grading.specs.declared.response.Answer.TheVariants as answer
use Rattle.qz_grading.specs.Grading.{answer_fits, certainty_fits, complete_answer, gradable_answer, grade_answer, shape}
use Rattle.qz_grading.specs.Shapes.{same_shape}
use Rattle.qz_grading.specs.Words.{mark_text, grade_text, decimal_text}

abbrev no_text : Rich
no_text = record { format = Moodle; text = [] }

abbrev third : ℤ
third = pos 3333333

-- ---- several choices: who lies in the tomb

abbrev choice : ℤ → Choice
choice weight = record { weight = weight; text = no_text; feedback = no_text }

abbrev half : ℤ
half = pos 5000000

abbrev minus_one : ℤ
minus_one = negsuc 9999999

abbrev tomb : Kind
tomb = kind.Several (choice minus_one ∷ choice half ∷ choice half ∷ choice minus_one ∷ [])

pub both_who_lie : grade_answer tomb (answer.Picks (2 ∷ 3 ∷ [])) ≡ pos 10000000
both_who_lie = refl

pub one_who_lies : grade_answer tomb (answer.Picks (2 ∷ [])) ≡ half
one_who_lies = refl

-- no less than 0
pub one_who_does_not : grade_answer tomb (answer.Picks (1 ∷ 2 ∷ [])) ≡ pos 0
one_who_does_not = refl

-- no more than 1
pub more_than_whole : grade_answer (kind.Several (choice (pos 6000000) ∷ choice (pos 6000000) ∷ [])) (answer.Picks (1 ∷ 2 ∷ [])) ≡ pos 10000000
more_than_whole = refl

pub three_thirds : grade_answer (kind.Several (choice third ∷ choice third ∷ choice third ∷ [])) (answer.Picks (1 ∷ 2 ∷ 3 ∷ [])) ≡ pos 9999999
three_thirds = refl

pub twice_the_same : answer_fits tomb (answer.Picks (2 ∷ 2 ∷ [])) ≡ false
twice_the_same = refl

pub past_the_last : answer_fits tomb (answer.Picks (2 ∷ 5 ∷ [])) ≡ false
past_the_last = refl

-- a single choice keeps its weight below 0
pub below_nothing : grade_answer (kind.One (choice (pos 10000000) ∷ choice (negsuc 3333332) ∷ [])) (answer.Pick 2) ≡ negsuc 3333332
below_nothing = refl

-- ---- matching: kinds of things, with a pair that only adds an answer

abbrev pair : List ℕ → List ℕ → Pair
pair stem text = record { stem = record { format = Moodle; text = stem }; answer = text }

abbrev things : Kind
things = kind.Matching (pair (codes "cat") (codes "animal") ∷ pair (codes " ") (codes "plant") ∷ pair (codes "frog") (codes "animal") ∷ pair (codes "salt") (codes "mineral") ∷ [])

-- 1 is animal, 2 is plant and 3 is mineral
pub all_matched : grade_answer things (answer.Match (1 ∷ 1 ∷ 3 ∷ [])) ≡ pos 10000000
all_matched = refl

pub two_matched : grade_answer things (answer.Match (1 ∷ 1 ∷ 2 ∷ [])) ≡ pos 6666667
two_matched = refl

pub one_matched : grade_answer things (answer.Match (0 ∷ 0 ∷ 3 ∷ [])) ≡ pos 3333333
one_matched = refl

pub a_stem_left_out : complete_answer things (answer.Match (1 ∷ 1 ∷ [])) ≡ false
a_stem_left_out = refl

pub an_answer_too_many : complete_answer things (answer.Match (1 ∷ 1 ∷ 3 ∷ 2 ∷ [])) ≡ false
an_answer_too_many = refl

pub partly_answered : complete_answer things (answer.Match (0 ∷ 0 ∷ 3 ∷ [])) ≡ false
partly_answered = refl

pub partly_gradable : gradable_answer things (answer.Match (0 ∷ 0 ∷ 3 ∷ [])) ≡ true
partly_gradable = refl

pub one_for_each_stem : answer_fits things (answer.Match (1 ∷ 1 ∷ 1 ∷ 3 ∷ [])) ≡ false
one_for_each_stem = refl

-- each answer may be chosen, also the last, and none past it
pub the_last_answer : answer_fits things (answer.Match (3 ∷ 3 ∷ 3 ∷ [])) ≡ true
the_last_answer = refl

pub past_the_last_answer : answer_fits things (answer.Match (1 ∷ 1 ∷ 4 ∷ [])) ≡ false
past_the_last_answer = refl

abbrev asking : Kind → Question
asking k = record { name = []; text = no_text; general = no_text; kind = k; penalty = third; hints = [] }

pub shape_of_things : shape (asking things) ≡ record { kind = 5; first = 3; second = 3 }
shape_of_things = refl

-- the same stems, and an answer less to choose from
pub another_shape : same_shape (record { kind = 5; first = 3; second = 3 }) (record { kind = 5; first = 3; second = 2 }) ≡ false
another_shape = refl

pub shape_of_tomb : shape (asking tomb) ≡ record { kind = 4; first = 4; second = 0 }
shape_of_tomb = refl

-- ---- short answers: the first that fits

abbrev short : ℤ → List ℕ → Short
short weight pattern = record { weight = weight; pattern = pattern; feedback = no_text }

abbrev moving : Kind
moving = kind.ShortAnswer (short (pos 10000000) (codes "running") ∷ short half (codes "ran*ing") ∷ short half (codes "r*ing") ∷ short (negsuc 999999) (codes "*") ∷ [])

pub the_word : grade_answer moving (answer.Words (codes " Running ")) ≡ pos 10000000
unfolding patterns
the_word = refl

pub fits_the_second : grade_answer moving (answer.Words (codes "ranting")) ≡ half
unfolding patterns
fits_the_second = refl

pub fits_the_star : grade_answer moving (answer.Words (codes "walking")) ≡ negsuc 999999
unfolding patterns
fits_the_star = refl

pub nothing_typed : complete_answer moving (answer.Words (codes " ")) ≡ false
unfolding patterns
nothing_typed = refl

-- ---- numbers: a year with tolerances, and a range

abbrev num : ℤ → Extent → Num
num weight taken = record { weight = weight; extent = taken; feedback = no_text }

abbrev year : ℤ
year = pos 18220000000000

abbrev born : Kind
born = kind.Numerical (num (pos 10000000) (extent.Near year (pos 0)) ∷ num half (extent.Near year (pos 20000000000)) ∷ num (negsuc 999999) extent.Any ∷ [])

pub the_year : grade_answer born (answer.Words (codes "1822.0")) ≡ pos 10000000
unfolding decimal_in digits_in tens_in exact_size
the_year = refl

pub at_the_edge : grade_answer born (answer.Words (codes "1820")) ≡ half
unfolding decimal_in digits_in tens_in exact_size
at_the_edge = refl

pub past_the_edge : grade_answer born (answer.Words (codes "1824.0000000001")) ≡ negsuc 999999
unfolding decimal_in digits_in tens_in exact_size
past_the_edge = refl

pub no_number : grade_answer born (answer.Words (codes "in 1822")) ≡ pos 0
unfolding decimal_in digits_in tens_in exact_size
no_number = refl

pub no_number_is_incomplete : complete_answer born (answer.Words (codes "in 1822")) ≡ false
unfolding decimal_in digits_in tens_in exact_size
no_number_is_incomplete = refl

abbrev one_to_five : Kind
one_to_five = kind.Numerical (num (pos 10000000) (extent.Between (pos 10000000000) (pos 50000000000)) ∷ [])

pub five_is_within : grade_answer one_to_five (answer.Words (codes "5.")) ≡ pos 10000000
unfolding decimal_in digits_in tens_in exact_size
five_is_within = refl

pub one_is_within : grade_answer one_to_five (answer.Words (codes "1")) ≡ pos 10000000
unfolding decimal_in digits_in tens_in exact_size
one_is_within = refl

pub less_than_one : grade_answer one_to_five (answer.Words (codes "0.9999999999")) ≡ pos 0
unfolding decimal_in digits_in tens_in exact_size
less_than_one = refl

pub more_than_five : grade_answer one_to_five (answer.Words (codes "5.01")) ≡ pos 0
unfolding decimal_in digits_in tens_in exact_size
more_than_five = refl

-- ---- certainties

pub unasked_certainty : certainty_fits behaviour.Adaptive 1 ≡ false
unasked_certainty = refl

pub fourth_certainty : certainty_fits behaviour.DeferredCbm 4 ≡ false
fourth_certainty = refl

-- ---- texts

pub lost_mark : mark_text (negsuc 59999999) ≡ codes "-6.0000000"
unfolding digits
lost_mark = refl

pub quarter_grade : grade_text (pos 725000) ≡ codes "7.25000"
unfolding digits
quarter_grade = refl

pub whole_number : decimal_text (pos 18220000000000) ≡ codes "1822"
unfolding digits
whole_number = refl

pub number_below_0 : decimal_text (negsuc 499999999) ≡ codes "-0.05"
unfolding digits
number_below_0 = refl

pub least_number : decimal_text (pos 1) ≡ codes "0.0000000001"
unfolding digits
least_number = refl
