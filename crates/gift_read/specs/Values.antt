-- The question that a block spells, by cases on its kind. Each block has one; whether it may be read is told by its faults.
use Rattle.std.specs.Prelude.{ℕ, ◌+◌, Bool, ◌&&◌, ◌||◌, ◌==◌, nat_lt, if◌then◌else◌, List, [], ◌∷◌, ◌++◌, length, map, take, drop, ℤ, pos, int_le, Option, Some, None, unwrap_or, codes}
use Rattle.std.specs.Char.{is_ascii_digit}
use Rattle.std.specs.List.{list_all}
use Rattle.qz_decimal.specs.Decimals.{decimal_in}
use Rattle.qz_decimal.specs.Numbers.{one}
use Rattle.qz_decimal.specs.Percent.{weight_in}
use Rattle.gift_lex.specs.declared.block.Block.{Block}
use Rattle.gift_lex.specs.declared.block.Piece.{Piece}
use Rattle.qz_grading.specs.declared.question.Choice.{Choice}
use Rattle.qz_grading.specs.declared.question.Extent.{Extent}
use Rattle.qz_grading.specs.declared.question.Extent.TheVariants as extent
use Rattle.qz_grading.specs.declared.question.Format.{Format}
use Rattle.qz_grading.specs.declared.question.Format.TheVariants as format
use Rattle.qz_grading.specs.declared.question.Kind.{Kind}
use Rattle.qz_grading.specs.declared.question.Kind.TheVariants as kind
use Rattle.qz_grading.specs.declared.question.Num.{Num}
use Rattle.qz_grading.specs.declared.question.Pair.{Pair}
use Rattle.qz_grading.specs.declared.question.Question.{Question}
use Rattle.qz_grading.specs.declared.question.Rich.{Rich}
use Rattle.qz_grading.specs.declared.question.Short.{Short}
use Rattle.gift_read.specs.declared.places.Landmark.TheVariants as landmark
use Rattle.gift_read.specs.declared.parts.Sort.{Sort}
use Rattle.gift_read.specs.declared.parts.Sort.TheVariants as sort
use Rattle.gift_read.specs.Places.{Marks, character, equals, is_at, before, from, occurs, trimmed}
use Rattle.gift_read.specs.Texts.{spelled, text_of, spells, shown, formatted, rich_of, made_name}
use Rattle.gift_read.specs.Parts as parts
use Rattle.gift_read.specs.Parts.{Part, pieces_of, answer_marks, feedback_marks}

-- ---- weights

-- behind a minus or none, digits and points
abbrev pub without_minus : Marks → Marks
without_minus [] = []
without_minus (m ∷ marks) = if character m == 45 then marks else m ∷ marks

abbrev pub is_figure : Piece → Bool
is_figure m = is_ascii_digit (character m) || character m == 46

abbrev pub is_figures : Marks → Bool
is_figures marks = nat_lt 0 (length (without_minus marks)) && list_all is_figure (without_minus marks)

-- what stands between a percent sign at the front and the next
abbrev pub percent_marks : Marks → Marks
percent_marks answer = before (is_at landmark.Percent) (drop 1 answer)

-- whether an answer begins with figures between two percent signs
abbrev pub is_weighed : Marks → Bool
is_weighed answer =
    is_at landmark.Percent answer && (occurs (is_at landmark.Percent) (drop 1 answer) && is_figures (percent_marks answer))

-- them, with the signs
abbrev pub weight_marks : Marks → Marks
weight_marks answer = take (length (percent_marks answer) + 2) answer

-- what stands behind them: everything, where there are none
abbrev pub unweighed : Marks → Marks
unweighed answer = if is_weighed answer then drop (length (percent_marks answer) + 2) answer else answer

-- the weight that they spell, if any
abbrev pub weight_told : Marks → Option ℤ
weight_told answer = weight_in (spelled (weight_marks answer))

-- what each sign weighs
abbrev pub own_weight : ℕ → ℤ
own_weight sign = if sign == equals then pos one else pos 0

abbrev pub weight_of : ℕ → Marks → ℤ
weight_of sign answer = if is_weighed answer then unwrap_or (weight_told answer) (pos 0) else own_weight sign

-- ---- choices, pairs and short answers

abbrev pub choice_of : Format → Part → Choice
choice_of f (sign, piece) = record {
  weight = weight_of sign (answer_marks piece);
  text = rich_of f (unweighed (answer_marks piece));
  feedback = rich_of f (feedback_marks piece);
}

abbrev pub empty_rich : Format → Rich
empty_rich f = record { format = f; text = [] }

-- a piece without an arrow is a pair without texts
abbrev pub pair_of : Format → Part → Pair
pair_of f (sign, piece) =
    if occurs (is_at landmark.Arrow) piece
    then record { stem = rich_of f (before (is_at landmark.Arrow) piece); answer = text_of (drop 2 (from (is_at landmark.Arrow) piece)) }
    else record { stem = empty_rich f; answer = [] }

-- the pattern names no format
abbrev pub short_of : Format → Part → Short
short_of f (sign, piece) = record {
  weight = weight_of sign (answer_marks piece);
  pattern = text_of (unweighed (answer_marks piece));
  feedback = rich_of f (feedback_marks piece);
}

-- ---- numbers

abbrev pub number_of : Marks → Option ℤ
number_of marks = decimal_in (spelled marks)

-- a number, and one from 0 up
abbrev pub near : Option ℤ → Option ℤ → Option Extent
near (Some centre) (Some slack) = if int_le (pos 0) slack then Some (extent.Near centre slack) else None
near (Some centre) None = None
near None slack = None

-- two numbers, the first not greater
abbrev pub between : Option ℤ → Option ℤ → Option Extent
between (Some low) (Some high) = if int_le low high then Some (extent.Between low high) else None
between (Some low) None = None
between None high = None

-- a star, two numbers with two points between them, a number and a tolerance, or a number
abbrev pub extent_of : Marks → Option Extent
extent_of marks =
    if spells (codes "*") (trimmed marks) then Some extent.Any
    else (if occurs (is_at landmark.Points) marks
    then between (number_of (before (is_at landmark.Points) marks)) (number_of (drop 2 (from (is_at landmark.Points) marks)))
    else (if occurs (is_at landmark.Colon) marks
    then near (number_of (before (is_at landmark.Colon) marks)) (number_of (drop 1 (from (is_at landmark.Colon) marks)))
    else near (number_of marks) (Some (pos 0))))

abbrev pub num_of : Format → Part → Num
num_of f (sign, piece) = record {
  weight = weight_of sign (answer_marks piece);
  extent = unwrap_or (extent_of (unweighed (answer_marks piece))) extent.Any;
  feedback = rich_of f (feedback_marks piece);
}

-- the feedback for every other number is that of a star of weight 0
abbrev pub other_of : Format → Marks → List Num
other_of f [] = []
other_of f (m ∷ marks) = record { weight = pos 0; extent = extent.Any; feedback = rich_of f (drop 2 (m ∷ marks)) } ∷ []

abbrev pub others : Marks → Marks
others answers = from (is_at landmark.Others) (drop 1 answers)

-- ---- true and false

-- the feedback for a wrong answer, and behind the next hash that for a right one
abbrev pub on_wrong : Marks → Marks
on_wrong answers = before (is_at landmark.Hash) (feedback_marks answers)

abbrev pub on_right : Marks → Marks
on_right answers = feedback_marks (feedback_marks answers)

-- ---- the question

abbrev pub kind_in : Format → Marks → Sort → Kind
kind_in f answers sort.Description = kind.Description
kind_in f answers sort.Essay = kind.Essay
kind_in f answers (sort.TrueFalse right) = kind.TrueFalse right (rich_of f (on_wrong answers)) (rich_of f (on_right answers))
kind_in f answers sort.One = kind.One (map (choice_of f) (pieces_of sort.One answers))
kind_in f answers sort.Several = kind.Several (map (choice_of f) (pieces_of sort.Several answers))
kind_in f answers sort.Matching = kind.Matching (map (pair_of f) (pieces_of sort.Matching answers))
kind_in f answers sort.ShortAnswer = kind.ShortAnswer (map (short_of f) (pieces_of sort.ShortAnswer answers))
kind_in f answers sort.Numerical = kind.Numerical (map (num_of f) (pieces_of sort.Numerical answers) ++ other_of f (others answers))

-- a third, but all for two choices
abbrev pub penalty_of : Kind → ℤ
penalty_of (kind.TrueFalse right on_wrong on_right) = pos one
penalty_of k = pos 3333333

-- the name that is given, or else one made from the text
abbrev pub name_or : List ℕ → Marks → List ℕ
name_or [] text = made_name text
name_or (b ∷ name) text = b ∷ name

abbrev pub question_with : List ℕ → Rich → Rich → Kind → Question
question_with name text general k = record { name = name; text = text; general = general; kind = k; penalty = penalty_of k; hints = [] }

-- with this text, of the marks behind the name
abbrev pub question_about : List ℕ → Marks → Marks → Question
question_about name text body =
    let whole = formatted format.Moodle text in
    let part = parts.answer_part body in
    question_with (name_or name (shown text)) whole (rich_of whole.format (parts.general_marks part)) (kind_in whole.format (parts.answers part) (parts.sort_of body))

abbrev pub question_in : List ℕ → Marks → Question
question_in name body = question_about name (parts.question_text body) body

abbrev pub question : Block → Question
question b = question_in (text_of (parts.name_marks b.marks)) (parts.body b.marks)
