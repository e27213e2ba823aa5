-- Which rules a block breaks, and the line of its fault.
use Rattle.std.specs.Prelude.{ℕ, Bool, true, false, not, ◌&&◌, ◌||◌, ◌==◌, nat_lt, if◌then◌else◌, List, [], ◌∷◌, ◌++◌, length, drop, is_none}
use Rattle.std.specs.List.{list_any}
use Rattle.gift_lex.specs.declared.block.Block.{Block}
use Rattle.qz_grading.specs.declared.limits.TheConstants.{MOST_PARTS, MOST_TEXT, MOST_TOGETHER}
use Rattle.qz_grading.specs.declared.question.Kind.{Kind}
use Rattle.qz_grading.specs.declared.question.Kind.TheVariants as kind
use Rattle.qz_grading.specs.declared.question.Question.{Question}
use Rattle.qz_grading.specs.Canonical.{canonical_size}
use Rattle.qz_grading.specs.Questions as sound
use Rattle.gift_read.specs.declared.places.Landmark.TheVariants as landmark
use Rattle.gift_read.specs.declared.parts.Sort.{Sort}
use Rattle.gift_read.specs.declared.parts.Sort.TheVariants as sort
use Rattle.gift_read.specs.Places.{Marks, is_at, before, occurs, are_blank}
use Rattle.gift_read.specs.Texts.{text_of}
use Rattle.gift_read.specs.Parts.{Part, is_named, in_name, name_marks, body, text_before, in_braces, answer_part, text_behind, answers, sort_of, pieces_of, answer_marks, feedback_marks}
use Rattle.gift_read.specs.Values.{is_weighed, weight_told, unweighed, extent_of, question}
use Rattle.gift_read.specs.Category.{is_category, is_bad_path}

-- a rule, where it is broken
abbrev pub when : Bool → ℕ → List ℕ
when false rule = []
when true rule = rule ∷ []

-- ---- names and braces

-- two colons at the front, and no two behind them
abbrev pub is_nameless : Marks → Bool
is_nameless marks = is_named marks && not (occurs (is_at landmark.Colons) (in_name marks))

-- a brace closes none, or stands behind the answer part
abbrev pub has_stray_brace : Marks → Bool
has_stray_brace body = occurs (is_at landmark.Closing) (text_before body) || occurs (is_at landmark.Brace) (text_behind body)

-- a brace isn't closed
abbrev pub is_unclosed : Marks → Bool
is_unclosed body = occurs (is_at landmark.Opening) body && not (occurs (is_at landmark.Closing) (in_braces body))

-- ---- lengths

abbrev pub is_long_name : Marks → Bool
is_long_name marks = nat_lt MOST_TEXT (length (text_of (name_marks marks)))

-- a text is too long, or there are too many pieces
abbrev pub is_long : Question → Bool
is_long q = not (sound.are_no_longer MOST_TEXT (sound.texts q)) || nat_lt MOST_PARTS (sound.parts q.kind)

-- ---- kinds

abbrev pub is_matching : Kind → Bool
is_matching (kind.Matching pairs) = true
is_matching k = false

-- too few pieces, or a blank one
abbrev pub lacks_piece : Kind → Bool
lacks_piece k = nat_lt (sound.parts k) (sound.least_parts k) || not (sound.has_no_blank k)

-- an arrow stands in a short answer
abbrev pub has_stray_arrow : Sort → Marks → Bool
has_stray_arrow sort.ShortAnswer answers = occurs (is_at landmark.Arrow) answers
has_stray_arrow s answers = false

-- the pieces that may have a weight
abbrev pub weighed_pieces : Sort → Marks → List Part
weighed_pieces sort.Matching answers = []
weighed_pieces s answers = pieces_of s answers

-- an answer has the form of a weight and no weight
abbrev pub is_misweighed : Part → Bool
is_misweighed p = is_weighed (answer_marks p.1) && is_none (weight_told (answer_marks p.1))

abbrev pub number_pieces : Sort → Marks → List Part
number_pieces sort.Numerical answers = pieces_of sort.Numerical answers
number_pieces s answers = []

abbrev pub has_blank_number : Part → Bool
has_blank_number p = are_blank (unweighed (answer_marks p.1))

abbrev pub has_no_number : Part → Bool
has_no_number p = is_none (extent_of (unweighed (answer_marks p.1)))

-- A true-false question has a third hash, or a numerical one a tilde that isn't before the feedback for every other number.
abbrev pub has_stray_feedback : Sort → Marks → Bool
has_stray_feedback (sort.TrueFalse right) answers = occurs (is_at landmark.Hash) (feedback_marks (feedback_marks answers))
has_stray_feedback sort.Numerical answers = occurs (is_at landmark.Tilde) (before (is_at landmark.Others) (drop 1 answers))
has_stray_feedback s answers = false

-- rules 2 and 6 to 11
abbrev pub broken_values : Question → Sort → Marks → List ℕ
broken_values q s answers =
    when (is_long q) 2
    ++ when ((not (is_matching q.kind) && lacks_piece q.kind) || list_any has_blank_number (number_pieces s answers)) 6
    ++ when (list_any is_misweighed (weighed_pieces s answers)) 7
    ++ when ((is_matching q.kind && (lacks_piece q.kind || not (sound.has_stem q.kind))) || has_stray_arrow s answers) 8
    ++ when (list_any has_no_number (number_pieces s answers)) 9
    ++ when (has_stray_feedback s answers) 10
    ++ when (not (sound.has_right_choice q.kind)) 11

-- ---- blocks

-- where the braces are at fault, the length of the name alone can be told
abbrev pub broken_body : Bool → Block → List ℕ
broken_body true b = when (is_long_name b.marks) 2 ++ (5 ∷ [])
broken_body false b = broken_values (question b) (sort_of (body b.marks)) (answers (answer_part (body b.marks)))

abbrev pub broken_question : Bool → Block → List ℕ
broken_question true b = 4 ∷ []
broken_question false b = broken_body (has_stray_brace (body b.marks) || is_unclosed (body b.marks)) b

abbrev pub flaws_in : Bool → Block → List ℕ
flaws_in true b = when (is_bad_path b.marks) 3
flaws_in false b = broken_question (is_nameless b.marks) b

-- what is told without the canonical text
abbrev pub flaws : Block → List ℕ
flaws b = flaws_in (is_category b.marks) b

-- whether the canonical text of a question without flaws is too long
abbrev pub is_large : Block → Bool
is_large b = not (is_category b.marks) && nat_lt MOST_TOGETHER (canonical_size (question b))

abbrev pub or_large : List ℕ → Block → List ℕ
or_large [] b = when (is_large b) 2
or_large (rule ∷ rules) b = rule ∷ rules

-- the rules that a block breaks, the least first
abbrev pub broken : Block → List ℕ
broken b = or_large (flaws b) b

-- A brace that isn't closed is told at the end of the block, and any other fault at its front.
abbrev pub line_of : Block → ℕ → ℕ
line_of b rule =
    if rule == 5 && (is_unclosed (body b.marks) && not (has_stray_brace (body b.marks))) then b.last_line else b.line
