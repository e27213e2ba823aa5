-- The same blocks, line by line from the front of a text, as the parts of the lexer say them.
use Rattle.std.specs.Prelude.{◌≡◌, ℕ, ◌+◌, Bool, true, ◌&&◌, ◌||◌, if◌then◌else◌, ◌==◌, List, [], ◌∷◌, ◌++◌, map, Option, Some, None}
use Rattle.std.specs.Option.{option_to_list}
use Rattle.std.specs.List.{enumerate_from}
use Rattle.gift_lex.specs.declared.block.Block.{Block}
use Rattle.gift_lex.specs.declared.block.Piece.TheVariants.{Plain}
use Rattle.gift_lex.specs.declared.gathering.Started.{Started}
use Rattle.gift_lex.specs.Blocks.{line_feed, carriage_return, with_plain_breaks, Line, between_feeds, is_blank_line, is_comment, is_category, line_marks, block_of, groups}

-- ---- where a line ends

abbrev pub is_break : ℕ → Bool
is_break c = c == carriage_return || c == line_feed

-- what follows the break that stands first
abbrev pub after_break : List ℕ → List ℕ
after_break [] = []
after_break (c ∷ []) = []
after_break (c ∷ d ∷ cs) = if c == carriage_return && d == line_feed then cs else d ∷ cs

-- the lines of characters whose breaks may still be carriage returns
abbrev pub split_lines : List ℕ → List (List ℕ)
split_lines cs = between_feeds (with_plain_breaks cs)

-- ---- a block that further lines may join

-- whether a further line stands at its front, but for comments
abbrev pub at_front : Option Started → Bool
at_front None = true
at_front (Some started) = started.only_comments

-- it, up to a line of this number, which may be its first
abbrev pub begun : Option Started → ℕ → Started
begun None number = record { line = number; last_line = number; marks = []; only_comments = true }
begun (Some started) number = record started { marks = started.marks ++ (Plain line_feed ∷ []) }

-- it, with the marks of that line
abbrev pub extended : Started → Line → Started
extended started line = record {
  line = started.line;
  last_line = line.0;
  marks = started.marks ++ line_marks line;
  only_comments = started.only_comments && is_comment line.1;
}

abbrev pub grown : Option Started → Line → Started
grown started line = extended (begun started line.0) line

-- the block that it is where it ends: none of comments alone
abbrev pub ended : Option Started → List Block
ended None = []
ended (Some started) =
    if started.only_comments then [] else record { line = started.line; last_line = started.last_line; marks = started.marks } ∷ []

-- it, and the blocks behind it, where these lines follow
abbrev pub gathered : Option Started → List Line → List Block
gathered started [] = ended started
gathered started (line ∷ later) =
    if is_blank_line line.1 then ended started ++ gathered None later
    else (if at_front started && is_category line.1 then ended (Some (grown started line)) ++ gathered None later else gathered (Some (grown started line)) later)

-- a further line is taken, and ends a block or none: whatever follows it, the blocks are the same
pub record TakesLine (old new : Option Started) (line : Line) (ends : Option Block) : Type 0 where
  pub same : (later : List Line) → gathered old (line ∷ later) ≡ option_to_list ends ++ gathered new later

-- ---- the blocks of what stands behind so many lines

abbrev pub to_come : ℕ → List ℕ → List Block
to_come taken rest = map block_of (groups (enumerate_from (taken + 1) (split_lines rest)))
