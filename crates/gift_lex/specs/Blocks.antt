-- The blocks of a GIFT text: its characters, its numbered lines, the blocks of these lines, and the marks of each block.
use Rattle.std.specs.Prelude.{ℕ, Bool, true, ◌&&◌, ◌||◌, not, if◌then◌else◌, ◌==◌, nat_eq, codes, List, [], ◌∷◌, map}
use Rattle.std.specs.List.{filter, list_any, list_all, starts_with, slice_split, onto_first, flat_map, join_by, enumerate_from}
use Rattle.std.specs.Str.{chars}
use Rattle.gift_lex.specs.declared.block.Block.{Block}
use Rattle.gift_lex.specs.declared.block.Piece.{Piece}
use Rattle.gift_lex.specs.declared.block.Piece.TheVariants.{Escaped, Sign, Plain}

-- ---- characters

abbrev pub tab : ℕ
tab = 9

abbrev pub line_feed : ℕ
line_feed = 10

abbrev pub carriage_return : ℕ
carriage_return = 13

abbrev pub space : ℕ
space = 32

abbrev pub backslash : ℕ
backslash = 92

abbrev pub letter_n : ℕ
letter_n = 110

abbrev pub byte_order_mark : ℕ
byte_order_mark = 0xfeff

-- a byte order mark at the front is dropped
abbrev pub without_order_mark : List ℕ → List ℕ
without_order_mark [] = []
without_order_mark (c ∷ cs) = if c == byte_order_mark then cs else c ∷ cs

-- a carriage return alone is a line feed
abbrev pub plain_break : ℕ → ℕ
plain_break c = if c == carriage_return then line_feed else c

-- and so is one with the line feed that follows it
abbrev pub with_plain_breaks : List ℕ → List ℕ
with_plain_breaks [] = []
with_plain_breaks (c ∷ []) = plain_break c ∷ []
with_plain_breaks (c ∷ d ∷ cs) =
    if c == carriage_return && d == line_feed then line_feed ∷ with_plain_breaks cs else plain_break c ∷ with_plain_breaks (d ∷ cs)

-- the characters of a text
abbrev pub characters : List ℕ → List ℕ
characters text = with_plain_breaks (without_order_mark (chars text))

-- ---- lines

-- a line is its number and its characters
abbrev pub Line : Type 0
Line = ℕ × List ℕ

-- what stands between line feeds
abbrev pub between_feeds : List ℕ → List (List ℕ)
between_feeds cs = slice_split (λ c. c == line_feed) cs

-- the lines of a text, which count from 1
abbrev pub lines_of : List ℕ → List Line
lines_of text = enumerate_from 1 (between_feeds (characters text))

abbrev pub is_gap : ℕ → Bool
is_gap c = c == space || c == tab

-- a line without the spaces and tabs that it begins with
abbrev pub unindented : List ℕ → List ℕ
unindented [] = []
unindented (c ∷ cs) = if is_gap c then unindented cs else c ∷ cs

-- a line of spaces and tabs alone is blank
abbrev pub is_blank_line : List ℕ → Bool
is_blank_line cs = list_all is_gap cs

abbrev pub is_comment : List ℕ → Bool
is_comment cs = starts_with nat_eq (unindented cs) (codes "//")

abbrev pub is_category : List ℕ → Bool
is_category cs = starts_with nat_eq (unindented cs) (codes "$CATEGORY:")

-- ---- blocks

-- the longest runs of lines without a blank line
abbrev pub runs : List Line → List (List Line)
runs lines = slice_split (λ line. is_blank_line line.1) lines

-- Lines of one run, cut behind each category line that stands at the front of its block but for comments. The test tells
-- whether nothing else of its block stands before the first of these lines.
abbrev pub cut : Bool → List Line → List (List Line)
cut at_front [] = [] ∷ []
cut at_front (line ∷ later) =
    if at_front && is_category line.1 then (line ∷ []) ∷ cut true later else onto_first line (cut (at_front && is_comment line.1) later)

-- whether each line is a comment
abbrev pub only_comments : List Line → Bool
only_comments lines = list_all (λ line. is_comment line.1) lines

-- the lines of each block: comments alone are none
abbrev pub groups : List Line → List (List Line)
groups lines = filter (λ group. not (only_comments group)) (flat_map (cut true) (runs lines))

-- ---- marks

abbrev pub is_sign : ℕ → Bool
is_sign c = list_any (λ sign. c == sign) (codes "~=#{}:")

-- a backslash and one of these are an escape pair
abbrev pub is_escape : ℕ → Bool
is_escape c = is_sign c || c == backslash || c == letter_n

-- and it stands for this character
abbrev pub escaped : ℕ → ℕ
escaped c = if c == letter_n then line_feed else c

-- a character outside such a pair
abbrev pub single : ℕ → Piece
single c = if is_sign c then Sign c else Plain c

-- the marks of a line's characters, pairs taken from the left
abbrev pub marks_of : List ℕ → List Piece
marks_of [] = []
marks_of (c ∷ []) = single c ∷ []
marks_of (c ∷ d ∷ cs) =
    if c == backslash && is_escape d then Escaped (escaped d) ∷ marks_of cs else single c ∷ marks_of (d ∷ cs)

-- a comment counts as one space
abbrev pub line_marks : Line → List Piece
line_marks line = if is_comment line.1 then Plain space ∷ [] else marks_of line.1

-- the numbers of the first line and of the last
abbrev pub first_number : List Line → ℕ
first_number [] = 0
first_number (line ∷ later) = line.0

abbrev pub last_number : List Line → ℕ
last_number [] = 0
last_number (line ∷ []) = line.0
last_number (line ∷ next ∷ later) = last_number (next ∷ later)

-- the block of such lines, with a line feed between each two
abbrev pub block_of : List Line → Block
block_of lines = record {
  line = first_number lines;
  last_line = last_number lines;
  marks = join_by line_marks (Plain line_feed ∷ []) lines;
}

-- the blocks of a text, given by its bytes in UTF-8
abbrev pub blocks_of : List ℕ → List Block
blocks_of text = map block_of (groups (lines_of text))
