-- Which answers fit a question, which are complete, and what each is worth, by cases on the kind.
use Rattle.std.specs.Prelude.{ℕ, ◌-◌, Bool, true, false, not, ◌&&◌, ◌==◌, nat_lt, nat_le, if◌then◌else◌, List, [], ◌∷◌, length, map, filter, find, zip, fold, count_by, Option, None, is_some, unwrap_or, option_map, slice_get, ℤ, pos, ◌+ℤ◌, ◌-ℤ◌, int_lt, int_le, bytes_eq}
use Rattle.std.specs.List.{list_any, list_all}
pub use Rattle.qz_decimal.specs.Decimals.{is_space}
use Rattle.qz_decimal.specs.Decimals.{decimal_in}
use Rattle.qz_decimal.specs.Numbers.{one, share}
use Rattle.qz_text.specs.Patterns as patterns
use Rattle.qz_grading.specs.declared.outcome.Behaviour.{Behaviour}
use Rattle.qz_grading.specs.declared.outcome.Behaviour.TheVariants.{DeferredCbm, ImmediateCbm}
use Rattle.qz_grading.specs.declared.question.Choice.{Choice}
use Rattle.qz_grading.specs.declared.question.Extent.{Extent}
use Rattle.qz_grading.specs.declared.question.Extent.TheVariants as extent
use Rattle.qz_grading.specs.declared.question.Pair.{Pair}
use Rattle.qz_grading.specs.declared.question.Kind.{Kind}
use Rattle.qz_grading.specs.declared.question.Kind.TheVariants as kind
use Rattle.qz_grading.specs.declared.question.Num.{Num}
use Rattle.qz_grading.specs.declared.question.Question.{Question}
use Rattle.qz_grading.specs.declared.question.Shape.{Shape}
use Rattle.qz_grading.specs.declared.question.Short.{Short}
use Rattle.qz_grading.specs.declared.response.Answer.{Answer}
use Rattle.qz_grading.specs.declared.response.Answer.TheVariants as answer
use Rattle.qz_grading.specs.declared.response.Response.{Response}

-- ---- same

-- equal as values
abbrev pub same_answer : Answer → Answer → Bool
same_answer answer.Blank answer.Blank = true
same_answer (answer.Pick a) (answer.Pick b) = a == b
same_answer (answer.Picks a) (answer.Picks b) = bytes_eq a b
same_answer (answer.Match a) (answer.Match b) = bytes_eq a b
same_answer (answer.Words a) (answer.Words b) = bytes_eq a b
same_answer a b = false

abbrev pub same : Response → Response → Bool
same a b = same_answer a.answer b.answer && (a.certainty == b.certainty)

-- no answer, and no certainty
abbrev pub blank : Response
blank = record { answer = answer.Blank; certainty = 0 }

-- ---- matching

-- nothing beside white space
abbrev pub is_blank : List ℕ → Bool
is_blank text = list_all is_space text

-- the pairs whose stem isn't blank
abbrev pub stems : List Pair → List Pair
stems pairs = filter (λ (p : Pair). not (is_blank p.stem.text)) pairs

-- each text once, in order of first appearance
abbrev pub distinct : List (List ℕ) → List (List ℕ)
distinct [] = []
distinct (t ∷ ts) = t ∷ filter (λ u. not (bytes_eq t u)) (distinct ts)

-- the answers to choose from
abbrev pub answers : List Pair → List (List ℕ)
answers pairs = distinct (map (λ (p : Pair). p.answer) pairs)

-- the item at a place that counts from 1
abbrev pub at_place : {A : Type 0} → List A → ℕ → Option A
at_place xs n = if n == 0 then None else slice_get xs (n - 1)

-- ---- fits

-- the behaviours under which a student says how certain an answer is
abbrev pub asks_certainty : Behaviour → Bool
asks_certainty DeferredCbm = true
asks_certainty ImmediateCbm = true
asks_certainty b = false

abbrev pub is_place : ℕ → ℕ → Bool
is_place count n = nat_le 1 n && nat_le n count

-- each number is greater than the one before
abbrev pub ascend_from : ℕ → List ℕ → Bool
ascend_from low [] = true
ascend_from low (n ∷ ns) = nat_lt low n && ascend_from n ns

-- at least one, in ascending order, from 1 to the count
abbrev pub are_places : ℕ → List ℕ → Bool
are_places count [] = false
are_places count (n ∷ ns) = ascend_from 0 (n ∷ ns) && list_all (is_place count) (n ∷ ns)

abbrev pub answer_fits : Kind → Answer → Bool
answer_fits kind.Description a = false
answer_fits k answer.Blank = true
answer_fits kind.Essay (answer.Words t) = true
answer_fits (kind.TrueFalse right on_wrong on_right) (answer.Pick n) = is_place 2 n
answer_fits (kind.One choices) (answer.Pick n) = is_place (length choices) n
answer_fits (kind.Several choices) (answer.Picks ns) = are_places (length choices) ns
answer_fits (kind.Matching pairs) (answer.Match ns) = (length ns == length (stems pairs)) && list_all (λ n. nat_le n (length (answers pairs))) ns
answer_fits (kind.ShortAnswer answers) (answer.Words t) = true
answer_fits (kind.Numerical answers) (answer.Words t) = true
answer_fits k a = false

abbrev pub certainty_fits : Behaviour → ℕ → Bool
certainty_fits b certainty = if asks_certainty b then nat_le certainty 3 else certainty == 0

abbrev pub fits : Question → Response → Behaviour → Bool
fits q r b = answer_fits q.kind r.answer && certainty_fits b r.certainty

-- ---- complete and gradable

-- for a stem an answer is chosen
abbrev pub is_chosen : ℕ → Bool
is_chosen n = nat_lt 0 n

-- something is typed beside white space, which is more here than in the texts of a question
abbrev pub is_typed : List ℕ → Bool
is_typed t = not (patterns.is_blank t)

-- a number is typed
abbrev pub is_number : List ℕ → Bool
is_number t = is_some (decimal_in t)

-- a matching question has one number for each stem, and each is that of an answer
abbrev pub complete_answer : Kind → Answer → Bool
complete_answer kind.Essay (answer.Words t) = is_typed t
complete_answer (kind.TrueFalse right on_wrong on_right) (answer.Pick n) = true
complete_answer (kind.One choices) (answer.Pick n) = true
complete_answer (kind.Several choices) (answer.Picks ns) = true
complete_answer (kind.Matching pairs) (answer.Match ns) = (length ns == length (stems pairs)) && list_all is_chosen ns
complete_answer (kind.ShortAnswer answers) (answer.Words t) = is_typed t
complete_answer (kind.Numerical answers) (answer.Words t) = is_number t
complete_answer k a = false

abbrev pub complete : Question → Response → Bool
complete q r = complete_answer q.kind r.answer

-- a matching question is gradable where some stem is chosen; every other kind where its answer is complete
abbrev pub gradable_answer : Kind → Answer → Bool
gradable_answer (kind.Matching pairs) (answer.Match ns) = list_any is_chosen ns
gradable_answer k a = complete_answer k a

abbrev pub gradable : Question → Response → Bool
gradable q r = gradable_answer q.kind r.answer

-- ---- the grade, in units of 10^-7

-- the weight of the choice at a place
abbrev pub weight_at : List Choice → ℕ → ℤ
weight_at choices n = unwrap_or (option_map (λ (c : Choice). c.weight) (at_place choices n)) (pos 0)

-- no less than 0 and no more than 1
abbrev pub clamped : ℤ → ℤ
clamped f = if int_lt f (pos 0) then pos 0 else (if int_lt (pos one) f then pos one else f)

-- a stem is right where the answer chosen is its own
abbrev pub is_right_stem : List (List ℕ) → Pair × ℕ → Bool
is_right_stem texts stem = unwrap_or (option_map (bytes_eq stem.0.answer) (at_place texts stem.1)) false

abbrev pub right_stems : List Pair → List ℕ → ℕ
right_stems pairs ns = count_by (is_right_stem (answers pairs)) (zip (stems pairs) ns)

-- the weight of the first answer whose pattern the typed text fits, or 0
abbrev pub short_weight : List Short → List ℕ → ℤ
short_weight answers t = unwrap_or (option_map (λ (a : Short). a.weight) (find (λ (a : Short). patterns.pattern_fits a.pattern t) answers)) (pos 0)

-- an extent takes a number; its ends are included
abbrev pub takes_number : Extent → ℤ → Bool
takes_number extent.Any x = true
takes_number (extent.Near centre slack) x = int_le (centre -ℤ slack) x && int_le x (centre +ℤ slack)
takes_number (extent.Between low high) x = int_le low x && int_le x high

-- the weight of the first answer whose extent takes the number, or 0
abbrev pub number_weight : List Num → ℤ → ℤ
number_weight answers x = unwrap_or (option_map (λ (a : Num). a.weight) (find (λ (a : Num). takes_number a.extent x) answers)) (pos 0)

-- and 0 where no number is typed
abbrev pub numerical_weight : List Num → List ℕ → ℤ
numerical_weight answers t = unwrap_or (option_map (number_weight answers) (decimal_in t)) (pos 0)

abbrev pub grade_answer : Kind → Answer → ℤ
grade_answer (kind.TrueFalse true on_wrong on_right) (answer.Pick n) = if n == 1 then pos one else pos 0
grade_answer (kind.TrueFalse false on_wrong on_right) (answer.Pick n) = if n == 1 then pos 0 else pos one
grade_answer (kind.One choices) (answer.Pick n) = weight_at choices n
grade_answer (kind.Several choices) (answer.Picks ns) = clamped (fold ◌+ℤ◌ (pos 0) (map (weight_at choices) ns))
grade_answer (kind.Matching pairs) (answer.Match ns) = share (right_stems pairs ns) (length (stems pairs))
grade_answer (kind.ShortAnswer answers) (answer.Words t) = short_weight answers t
grade_answer (kind.Numerical answers) (answer.Words t) = numerical_weight answers t
grade_answer k a = pos 0

abbrev pub grade : Question → Response → ℤ
grade q r = grade_answer q.kind r.answer

-- ---- the shape

-- kinds are numbered in the order in which they are declared
abbrev pub kind_number : Kind → ℕ
kind_number kind.Description = 0
kind_number kind.Essay = 1
kind_number (kind.TrueFalse right on_wrong on_right) = 2
kind_number (kind.One choices) = 3
kind_number (kind.Several choices) = 4
kind_number (kind.Matching pairs) = 5
kind_number (kind.ShortAnswer answers) = 6
kind_number (kind.Numerical answers) = 7

-- so many choices and 0, or so many stems and answers to choose from, or 0 and 0
abbrev pub counts : Kind → ℕ × ℕ
counts (kind.One choices) = (length choices, 0)
counts (kind.Several choices) = (length choices, 0)
counts (kind.Matching pairs) = (length (stems pairs), length (answers pairs))
counts k = (0, 0)

abbrev pub shape : Question → Shape
shape q = record { kind = kind_number q.kind; first = (counts q.kind).0; second = (counts q.kind).1 }
