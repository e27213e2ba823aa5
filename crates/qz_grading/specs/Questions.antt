-- What every question keeps: how much it has, how long its texts are, and the ranges of its numbers.
use Rattle.std.specs.Prelude.{ℕ, ◌+◌, ◌^◌, ◌≤◌, Bool, true, not, ◌&&◌, nat_lt, nat_le, List, [], ◌∷◌, ◌++◌, length, map, sum_by, ℤ, pos, neg_ℤ, int_le, unsigned_abs, IsTrue}
use Rattle.std.specs.List.{list_any, list_all, flat_map}
use Rattle.std.specs.Ordering.{int_eq}
use Rattle.qz_decimal.specs.Numbers.{one}
use Rattle.qz_decimal.specs.Reading.{IsWrittenFraction}
use Rattle.qz_grading.specs.declared.limits.TheConstants.{MOST_HINT, MOST_HINTS, MOST_PARTS, MOST_TEXT, MOST_TOGETHER}
use Rattle.qz_grading.specs.declared.question.Choice.{Choice}
use Rattle.qz_grading.specs.declared.question.Extent.{Extent}
use Rattle.qz_grading.specs.declared.question.Extent.TheVariants as extent
use Rattle.qz_grading.specs.declared.question.Kind.{Kind}
use Rattle.qz_grading.specs.declared.question.Kind.TheVariants as kind
use Rattle.qz_grading.specs.declared.question.Num.{Num}
use Rattle.qz_grading.specs.declared.question.Pair.{Pair}
use Rattle.qz_grading.specs.declared.question.Question.{Question}
use Rattle.qz_grading.specs.declared.question.Short.{Short}
use Rattle.qz_grading.specs.Grading.{is_blank, stems}

-- ---- numbers

-- a weight is from -1 to 1
abbrev pub is_weight : ℤ → Bool
is_weight w = int_le (neg_ℤ (pos one)) w && int_le w (pos one)

-- a number has at most 15 whole digits, and its unit is 10^-10
abbrev pub is_short_number : ℤ → Bool
is_short_number x = nat_lt (unsigned_abs x) (10 ^ (15 + 10))

-- a tolerance is no less than 0, and the ends of a range stand in order
abbrev pub is_extent : Extent → Bool
is_extent extent.Any = true
is_extent (extent.Near centre slack) = is_short_number centre && (is_short_number slack && int_le (pos 0) slack)
is_extent (extent.Between low high) = is_short_number low && (is_short_number high && int_le low high)

-- ---- choices, pairs and answers

-- how many of them
abbrev pub parts : Kind → ℕ
parts (kind.One choices) = length choices
parts (kind.Several choices) = length choices
parts (kind.Matching pairs) = length pairs
parts (kind.ShortAnswer answers) = length answers
parts (kind.Numerical answers) = length answers
parts k = 0

abbrev pub least_parts : Kind → ℕ
least_parts (kind.One choices) = 2
least_parts (kind.Several choices) = 2
least_parts (kind.Matching pairs) = 2
least_parts (kind.ShortAnswer answers) = 1
least_parts (kind.Numerical answers) = 1
least_parts k = 0

abbrev pub are_weighed : List Choice → Bool
are_weighed choices = list_all (λ (c : Choice). is_weight c.weight) choices

abbrev pub are_weighed_shorts : List Short → Bool
are_weighed_shorts answers = list_all (λ (a : Short). is_weight a.weight) answers

abbrev pub are_weighed_extents : List Num → Bool
are_weighed_extents answers = list_all (λ (a : Num). is_weight a.weight && is_extent a.extent) answers

abbrev pub has_numbers_in_range : Kind → Bool
has_numbers_in_range (kind.One choices) = are_weighed choices
has_numbers_in_range (kind.Several choices) = are_weighed choices
has_numbers_in_range (kind.ShortAnswer answers) = are_weighed_shorts answers
has_numbers_in_range (kind.Numerical answers) = are_weighed_extents answers
has_numbers_in_range k = true

abbrev pub no_blank_choice : List Choice → Bool
no_blank_choice choices = list_all (λ (c : Choice). not (is_blank c.text.text)) choices

abbrev pub no_blank_answer : List Pair → Bool
no_blank_answer pairs = list_all (λ (p : Pair). not (is_blank p.answer)) pairs

abbrev pub no_blank_pattern : List Short → Bool
no_blank_pattern answers = list_all (λ (a : Short). not (is_blank a.pattern)) answers

abbrev pub has_no_blank : Kind → Bool
has_no_blank (kind.One choices) = no_blank_choice choices
has_no_blank (kind.Several choices) = no_blank_choice choices
has_no_blank (kind.Matching pairs) = no_blank_answer pairs
has_no_blank (kind.ShortAnswer answers) = no_blank_pattern answers
has_no_blank k = true

-- some choice is wholly right
abbrev pub some_choice_right : List Choice → Bool
some_choice_right choices = list_any (λ (c : Choice). int_eq c.weight (pos one)) choices

-- which is needed where one choice is to be picked
abbrev pub has_right_choice : Kind → Bool
has_right_choice (kind.One choices) = some_choice_right choices
has_right_choice k = true

-- a matching question has a stem
abbrev pub has_stem : Kind → Bool
has_stem (kind.Matching pairs) = nat_lt 0 (length (stems pairs))
has_stem k = true

-- a kind has neither too many parts nor too few, and each is as it must be
pub record IsSound (k : Kind) : Type 0 where
  pub few : parts k ≤ MOST_PARTS
  pub enough : least_parts k ≤ parts k
  pub numbers : IsTrue (has_numbers_in_range k)
  pub no_blank : IsTrue (has_no_blank k)
  pub right_choice : IsTrue (has_right_choice k)
  pub stem : IsTrue (has_stem k)

-- ---- texts, whose lengths are in bytes

abbrev pub kind_texts : Kind → List (List ℕ)
kind_texts (kind.TrueFalse right on_wrong on_right) = on_wrong.text ∷ on_right.text ∷ []
kind_texts (kind.One choices) = flat_map (λ (c : Choice). c.text.text ∷ c.feedback.text ∷ []) choices
kind_texts (kind.Several choices) = flat_map (λ (c : Choice). c.text.text ∷ c.feedback.text ∷ []) choices
kind_texts (kind.Matching pairs) = flat_map (λ (p : Pair). p.stem.text ∷ p.answer ∷ []) pairs
kind_texts (kind.ShortAnswer answers) = flat_map (λ (a : Short). a.pattern ∷ a.feedback.text ∷ []) answers
kind_texts (kind.Numerical answers) = map (λ (a : Num). a.feedback.text) answers
kind_texts k = []

abbrev pub texts : Question → List (List ℕ)
texts q = q.name ∷ q.text.text ∷ q.general.text ∷ kind_texts q.kind

abbrev pub are_no_longer : ℕ → List (List ℕ) → Bool
are_no_longer most ts = list_all (λ t. nat_le (length t) most) ts

-- ---- the condition on questions in general

pub record IsQuestion (q : Question) : Type 0 where
  pub kind : IsSound q.kind
  pub penalty : IsWrittenFraction q.penalty
  pub lengths : IsTrue (are_no_longer MOST_TEXT (texts q))
  pub few_hints : length q.hints ≤ MOST_HINTS
  pub hints : IsTrue (are_no_longer MOST_HINT q.hints)
  pub together : sum_by length (texts q ++ q.hints) ≤ MOST_TOGETHER
