-- The parts of a block: the name, the question text, the answer part, the general feedback, and the pieces.
use Rattle.std.specs.Prelude.{ℕ, Bool, true, false, ◌&&◌, ◌||◌, if◌then◌else◌, List, [], ◌∷◌, ◌++◌, map, drop, Option, Some, None, codes}
use Rattle.gift_lex.specs.declared.block.Piece.TheVariants.{Plain}
use Rattle.gift_read.specs.declared.places.Landmark.TheVariants as landmark
use Rattle.gift_read.specs.declared.parts.Sort.{Sort}
use Rattle.gift_read.specs.declared.parts.Sort.TheVariants as sort
use Rattle.gift_read.specs.Places.{Marks, character, tilde, equals, is_at, before, from, occurs, is_last, are_blank, unled, trimmed}
use Rattle.gift_read.specs.Texts.{spells}

-- ---- the name

-- whether a name stands at the front
abbrev pub is_named : Marks → Bool
is_named marks = is_at landmark.Colons (unled marks)

-- what follows the two colons before it
abbrev pub in_name : Marks → Marks
in_name marks = drop 2 (unled marks)

-- the name, up to the next two colons
abbrev pub name_marks : Marks → Marks
name_marks marks = if is_named marks then before (is_at landmark.Colons) (in_name marks) else []

-- what follows the name: everything, where there is none
abbrev pub body : Marks → Marks
body marks = if is_named marks then drop 2 (from (is_at landmark.Colons) (in_name marks)) else marks

-- ---- what follows the name

-- the text before the answer part
abbrev pub text_before : Marks → Marks
text_before body = before (is_at landmark.Opening) body

-- what follows the opening brace
abbrev pub in_braces : Marks → Marks
in_braces body = drop 1 (from (is_at landmark.Opening) body)

-- the answer part, without its braces
abbrev pub answer_part : Marks → Marks
answer_part body = before (is_at landmark.Closing) (in_braces body)

-- the text behind it
abbrev pub text_behind : Marks → Marks
text_behind body = drop 1 (from (is_at landmark.Closing) (in_braces body))

-- five underscores stand in the place of an answer part that text follows
abbrev pub gap : Marks
gap = map Plain (codes "_____")

abbrev pub question_text : Marks → Marks
question_text body = if are_blank (text_behind body) then text_before body else text_before body ++ (gap ++ text_behind body)

-- the general feedback, behind the last place with four hashes
abbrev pub general_marks : Marks → Marks
general_marks part = drop 4 (from (is_last (is_at landmark.Hashes)) part)

-- what it leaves
abbrev pub answers : Marks → Marks
answers part = trimmed (before (is_last (is_at landmark.Hashes)) part)

-- ---- the kind

-- the answer that a true-false question takes as right
abbrev pub truth : Marks → Option Bool
truth word =
    if spells (codes "T") word || spells (codes "TRUE") word then Some true
    else (if spells (codes "F") word || spells (codes "FALSE") word then Some false else None)

abbrev pub short_unless : Option Bool → Sort
short_unless None = sort.ShortAnswer
short_unless (Some right) = sort.TrueFalse right

-- by what stands in the answer part: the first that holds
abbrev pub sort_in : Marks → Sort
sort_in [] = sort.Essay
sort_in (m ∷ marks) =
    let part = m ∷ marks in
    if is_at landmark.Hash part then sort.Numerical
    else (if occurs (is_at landmark.Tilde) part then (if occurs (is_at landmark.Equals) part then sort.One else sort.Several)
    else (if occurs (is_at landmark.Equals) part && occurs (is_at landmark.Arrow) part then sort.Matching
    else short_unless (truth (trimmed (before (is_at landmark.Hash) part)))))

-- and a description where there are no braces
abbrev pub sort_of : Marks → Sort
sort_of body = if occurs (is_at landmark.Opening) body then sort_in (answers (answer_part body)) else sort.Description

-- ---- pieces

-- a piece is the character of its sign, and its marks
abbrev pub Part : Type 0
Part = ℕ × Marks

abbrev pub onto_part : Marks → List Part → List Part
onto_part marks [] = []
onto_part marks (p ∷ parts) = (p.0, marks ++ p.1) ∷ parts

-- cut before each place where a piece begins; what stands before the first is taken as if behind this sign
abbrev pub cut : (Marks → Bool) → ℕ → Marks → List Part
cut begins sign [] = (sign, []) ∷ []
cut begins sign (m ∷ marks) = if begins (m ∷ marks) then (sign, []) ∷ cut begins (character m) marks else onto_part (m ∷ []) (cut begins sign marks)

-- nothing stands before the first but white space
abbrev pub unless_blank : List Part → List Part
unless_blank [] = []
unless_blank (p ∷ parts) = if are_blank p.1 then parts else p ∷ parts

abbrev pub pieces : (Marks → Bool) → ℕ → Marks → List Part
pieces begins sign marks = unless_blank (cut begins sign marks)

-- behind the hash of a numerical question, up to the feedback for every other number
abbrev pub numbers : Marks → Marks
numbers answers = before (is_at landmark.Others) (drop 1 answers)

-- the pieces of the answers, by kind
abbrev pub pieces_of : Sort → Marks → List Part
pieces_of sort.One answers = pieces (is_at landmark.Choice) tilde answers
pieces_of sort.Several answers = pieces (is_at landmark.Choice) tilde answers
pieces_of sort.Matching answers = pieces (is_at landmark.Equals) equals answers
pieces_of sort.ShortAnswer answers = pieces (is_at landmark.Equals) equals answers
pieces_of sort.Numerical answers = pieces (is_at landmark.Equals) equals (numbers answers)
pieces_of s answers = []

-- ---- one piece

-- the answer, up to the first hash
abbrev pub answer_marks : Marks → Marks
answer_marks piece = trimmed (before (is_at landmark.Hash) piece)

-- the feedback behind it
abbrev pub feedback_marks : Marks → Marks
feedback_marks piece = drop 1 (from (is_at landmark.Hash) piece)
