-- Worked texts.
use Rattle.std.specs.Prelude.{◌≡◌, ℕ, List, [], ◌∷◌, ◌++◌, map, codes, refl}
use Rattle.std.specs.Str.{chars}
use Rattle.gift_lex.specs.declared.block.Block.{Block}
use Rattle.gift_lex.specs.declared.block.Piece.{Piece}
use Rattle.gift_lex.specs.declared.block.Piece.TheVariants.{Escaped, Sign, Plain}
use Rattle.gift_lex.specs.Blocks.{byte_order_mark, backslash, line_feed, blocks_of}

abbrev plain : List ℕ → List Piece
plain cs = map Plain cs

-- a block from one line to another
abbrev from_to : ℕ → ℕ → List Piece → Block
from_to line last_line marks = record { line = line; last_line = last_line; marks = marks }

-- ---- lines and blocks

pub no_bytes : blocks_of [] ≡ []
unfolding chars
no_bytes = refl

pub line_feed_alone : blocks_of (codes "\n") ≡ []
unfolding chars
line_feed_alone = refl

pub blank_line_parts : blocks_of (codes "a\nb\n\nc\n") ≡ from_to 1 2 (plain (codes "a\nb")) ∷ from_to 4 4 (plain (codes "c")) ∷ []
unfolding chars
blank_line_parts = refl

pub spaces_and_tabs_are_blank : blocks_of (codes "a\n \t\nb") ≡ from_to 1 1 (plain (codes "a")) ∷ from_to 3 3 (plain (codes "b")) ∷ []
unfolding chars
spaces_and_tabs_are_blank = refl

pub carriage_return_and_feed_are_one : blocks_of (codes "a\r\nb\r\n") ≡ from_to 1 2 (plain (codes "a\nb")) ∷ []
unfolding chars
carriage_return_and_feed_are_one = refl

pub carriage_return_alone : blocks_of (codes "a\rb\r") ≡ from_to 1 2 (plain (codes "a\nb")) ∷ []
unfolding chars
carriage_return_alone = refl

-- the second return takes the feed, so the line between is blank
pub return_before_both : blocks_of (codes "a\r\r\nb") ≡ from_to 1 1 (plain (codes "a")) ∷ from_to 3 3 (plain (codes "b")) ∷ []
unfolding chars
return_before_both = refl

pub feed_before_return : blocks_of (codes "a\n\rb") ≡ from_to 1 1 (plain (codes "a")) ∷ from_to 3 3 (plain (codes "b")) ∷ []
unfolding chars
feed_before_return = refl

pub byte_order_mark_dropped : blocks_of (0xef ∷ 0xbb ∷ 0xbf ∷ codes "a") ≡ from_to 1 1 (plain (codes "a")) ∷ []
unfolding chars
byte_order_mark_dropped = refl

-- once, and at the front alone
pub second_mark_stays : blocks_of (0xef ∷ 0xbb ∷ 0xbf ∷ 0xef ∷ 0xbb ∷ 0xbf ∷ []) ≡ from_to 1 1 (plain (byte_order_mark ∷ [])) ∷ []
unfolding chars
second_mark_stays = refl

pub beyond_ascii : blocks_of (0xc3 ∷ 0xa9 ∷ 0xe2 ∷ 0x82 ∷ 0xac ∷ []) ≡ from_to 1 1 (plain (codes "é€")) ∷ []
unfolding chars
beyond_ascii = refl

-- ---- comments

pub comment_inside : blocks_of (codes "a\n\t// c: {\nb") ≡ from_to 1 3 (plain (codes "a\n \nb")) ∷ []
unfolding chars
comment_inside = refl

pub comment_at_both_ends : blocks_of (codes "// c\na\n// d\n\n") ≡ from_to 1 3 (plain (codes " \na\n ")) ∷ []
unfolding chars
comment_at_both_ends = refl

pub comments_alone : blocks_of (codes "// c\n // d\n\n//\n") ≡ []
unfolding chars
comments_alone = refl

pub slashes_later_are_plain : blocks_of (codes "/ / a // b") ≡ from_to 1 1 (plain (codes "/ / a // b")) ∷ []
unfolding chars
slashes_later_are_plain = refl

-- ---- category lines

pub category_ends_its_block : blocks_of (codes "$CATEGORY:a\nb\nc") ≡ from_to 1 1 (plain (codes "$CATEGORY") ++ (Sign 58 ∷ plain (codes "a"))) ∷ from_to 2 3 (plain (codes "b\nc")) ∷ []
unfolding chars
category_ends_its_block = refl

pub comment_before_category : blocks_of (codes "// c\n \t$CATEGORY:a\nb") ≡ from_to 1 2 (plain (codes " \n \t$CATEGORY") ++ (Sign 58 ∷ plain (codes "a"))) ∷ from_to 3 3 (plain (codes "b")) ∷ []
unfolding chars
comment_before_category = refl

pub comment_behind_category : blocks_of (codes "$CATEGORY:\n// c\nb") ≡ from_to 1 1 (plain (codes "$CATEGORY") ++ (Sign 58 ∷ [])) ∷ from_to 2 3 (plain (codes " \nb")) ∷ []
unfolding chars
comment_behind_category = refl

pub category_behind_category : blocks_of (codes "$CATEGORY:\n$CATEGORY:") ≡ from_to 1 1 (plain (codes "$CATEGORY") ++ (Sign 58 ∷ [])) ∷ from_to 2 2 (plain (codes "$CATEGORY") ++ (Sign 58 ∷ [])) ∷ []
unfolding chars
category_behind_category = refl

-- not at the front of its block
pub category_behind_text : blocks_of (codes "a\n$CATEGORY:\nb") ≡ from_to 1 3 (plain (codes "a\n$CATEGORY") ++ (Sign 58 ∷ plain (codes "\nb"))) ∷ []
unfolding chars
category_behind_text = refl

-- in another case
pub category_in_lower_case : blocks_of (codes "$category\na") ≡ from_to 1 2 (plain (codes "$category\na")) ∷ []
unfolding chars
category_in_lower_case = refl

-- ---- marks

pub signs : blocks_of (codes "~=#{}:::") ≡ from_to 1 1 (map Sign (codes "~=#{}:::")) ∷ []
unfolding chars
signs = refl

pub escape_pairs : blocks_of (codes "\\~\\=\\#\\{\\}\\:\\\\") ≡ from_to 1 1 (map Escaped (codes "~=#{}:\\")) ∷ []
unfolding chars
escape_pairs = refl

-- a backslash and `n`
pub line_feed_escaped : blocks_of (codes "a\\nb") ≡ from_to 1 1 (Plain 97 ∷ Escaped line_feed ∷ Plain 98 ∷ []) ∷ []
unfolding chars
line_feed_escaped = refl

-- its line isn't blank
pub line_feed_escaped_alone : blocks_of (codes "a\n\\n\nb") ≡ from_to 1 3 (plain (codes "a\n") ++ (Escaped line_feed ∷ plain (codes "\nb"))) ∷ []
unfolding chars
line_feed_escaped_alone = refl

-- two backslashes are a pair, and what follows is none
pub pairs_from_the_left : blocks_of (codes "\\\\{\\\\\\{") ≡ from_to 1 1 (Escaped backslash ∷ Sign 123 ∷ Escaped backslash ∷ Escaped 123 ∷ []) ∷ []
unfolding chars
pairs_from_the_left = refl

pub other_backslashes_stand : blocks_of (codes "\\->\\a\\\t") ≡ from_to 1 1 (plain (codes "\\->\\a\\\t")) ∷ []
unfolding chars
other_backslashes_stand = refl

pub backslash_at_the_end : blocks_of (codes "a\\") ≡ from_to 1 1 (plain (codes "a\\")) ∷ []
unfolding chars
backslash_at_the_end = refl

-- no pair crosses the end of a line
pub backslash_before_a_line_feed : blocks_of (codes "a\\\nn\\\r{") ≡ from_to 1 3 (plain (codes "a\\\nn\\\n") ++ (Sign 123 ∷ [])) ∷ []
unfolding chars
backslash_before_a_line_feed = refl
