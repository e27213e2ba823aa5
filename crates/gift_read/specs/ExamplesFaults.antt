-- Worked texts at fault, each with its line and rule.
use Rattle.std.specs.Prelude.{◌≡◌, [], ◌∷◌, codes, refl}
use Rattle.gift_read.specs.Computing.{gift}
use Rattle.gift_read.specs.Gift.{reading}
use Rattle.gift_read.specs.Examples.{at_fault}

pub no_utf8 : reading (97 ∷ 13 ∷ 10 ∷ 13 ∷ 255 ∷ codes "\n::a") ≡ at_fault 3 1
unfolding gift
no_utf8 = refl

pub a_blank_path : reading (codes "a\n\n$CATEGORY:") ≡ at_fault 3 3
unfolding gift
a_blank_path = refl

pub a_name_begins_with_a_slash : reading (codes "$CATEGORY:a/ //b") ≡ at_fault 1 3
unfolding gift
a_name_begins_with_a_slash = refl

pub a_name_without_its_end : reading (codes "a\n\n::b") ≡ at_fault 3 4
unfolding gift
a_name_without_its_end = refl

pub three_colons_alone : reading (codes ":::") ≡ at_fault 1 4
unfolding gift
three_colons_alone = refl

-- is told at the end of the block
pub an_open_brace : reading (codes "// c\na\n{T\n// d") ≡ at_fault 4 5
unfolding gift
an_open_brace = refl

-- ends the block
pub a_blank_line_in_the_part : reading (codes "a{\n\nT}") ≡ at_fault 1 5
unfolding gift
a_blank_line_in_the_part = refl

pub a_closing_brace : reading (codes "a\nb}") ≡ at_fault 1 5
unfolding gift
a_closing_brace = refl

pub a_closing_brace_first : reading (codes "a } {\nb") ≡ at_fault 1 5
unfolding gift
a_closing_brace_first = refl

pub a_brace_behind_the_part : reading (codes "a\n{T}}") ≡ at_fault 1 5
unfolding gift
a_brace_behind_the_part = refl

pub an_opening_brace_behind_the_part : reading (codes "a{T}{") ≡ at_fault 1 5
unfolding gift
an_opening_brace_behind_the_part = refl

pub a_blank_choice : reading (codes "a{=b~}") ≡ at_fault 1 6
unfolding gift
a_blank_choice = refl

pub a_choice_of_a_format_alone : reading (codes "a{=b~[html]}") ≡ at_fault 1 6
unfolding gift
a_choice_of_a_format_alone = refl

pub one_choice_alone : reading (codes "a{~b}") ≡ at_fault 1 6
unfolding gift
one_choice_alone = refl

pub no_numbers : reading (codes "a{#}") ≡ at_fault 1 6
unfolding gift
no_numbers = refl

pub a_blank_number : reading (codes "a{#=}") ≡ at_fault 1 6
unfolding gift
a_blank_number = refl

pub a_weight_too_great : reading (codes "a{=b~%101%c}") ≡ at_fault 1 7
unfolding gift
a_weight_too_great = refl

pub a_weight_of_a_point : reading (codes "a{=b~%.%c}") ≡ at_fault 1 7
unfolding gift
a_weight_of_a_point = refl

pub a_weight_of_three_numbers : reading (codes "a{=b~%1.2.3%c}") ≡ at_fault 1 7
unfolding gift
a_weight_of_three_numbers = refl

pub a_blank_piece_behind_a_bad_weight : reading (codes "a{=b~%101%}") ≡ at_fault 1 6
unfolding gift
a_blank_piece_behind_a_bad_weight = refl

pub no_arrow : reading (codes "a{=b->c =d}") ≡ at_fault 1 8
unfolding gift
no_arrow = refl

pub an_arrow_in_a_short_answer : reading (codes "a{b->c}") ≡ at_fault 1 8
unfolding gift
an_arrow_in_a_short_answer = refl

pub no_stem : reading (codes "a{=->b =->c}") ≡ at_fault 1 8
unfolding gift
no_stem = refl

pub one_pair : reading (codes "a{=b->c}") ≡ at_fault 1 8
unfolding gift
one_pair = refl

pub a_blank_answer : reading (codes "a{=b->c =d->}") ≡ at_fault 1 8
unfolding gift
a_blank_answer = refl

pub no_number : reading (codes "a{#x}") ≡ at_fault 1 9
unfolding gift
no_number = refl

pub a_tilde_in_a_number : reading (codes "a{#3~4}") ≡ at_fault 1 9
unfolding gift
a_tilde_in_a_number = refl

pub a_range_backwards : reading (codes "a{#2..1}") ≡ at_fault 1 9
unfolding gift
a_range_backwards = refl

pub a_tolerance_below_zero : reading (codes "a{#2:-1}") ≡ at_fault 1 9
unfolding gift
a_tolerance_below_zero = refl

pub points_and_a_colon : reading (codes "a{#1:1..2}") ≡ at_fault 1 9
unfolding gift
points_and_a_colon = refl

pub a_tilde_in_a_feedback : reading (codes "a{#3#x~y}") ≡ at_fault 1 10
unfolding gift
a_tilde_in_a_feedback = refl

pub three_hashes : reading (codes "a{F#b#c#d}") ≡ at_fault 1 10
unfolding gift
three_hashes = refl

pub no_right_choice : reading (codes "a{=%50%b~c}") ≡ at_fault 1 11
unfolding gift
no_right_choice = refl

pub the_first_block_at_fault : reading (codes "a{=%50%b~c}\n\n::d") ≡ at_fault 1 11
unfolding gift
the_first_block_at_fault = refl

pub a_later_block : reading (codes "a{T}\n\nb\n{") ≡ at_fault 4 5
unfolding gift
a_later_block = refl

-- ---- texts of one line

pub an_open_brace_alone : reading (codes "A {=b") ≡ at_fault 1 5
unfolding gift
an_open_brace_alone = refl

pub a_closing_brace_alone : reading (codes "}") ≡ at_fault 1 5
unfolding gift
a_closing_brace_alone = refl

pub a_name_alone : reading (codes "::a") ≡ at_fault 1 4
unfolding gift
a_name_alone = refl

pub a_weight_of_200 : reading (codes "A{=%200%b =c}") ≡ at_fault 1 7
unfolding gift
a_weight_of_200 = refl

pub a_tolerance_of_minus_one : reading (codes "A{#1:-1}") ≡ at_fault 1 9
unfolding gift
a_tolerance_of_minus_one = refl

pub three_hashes_behind_true : reading (codes "A{T#a#b#c}") ≡ at_fault 1 10
unfolding gift
three_hashes_behind_true = refl

pub a_blank_name : reading (codes "$CATEGORY: a/ /b") ≡ at_fault 1 3
unfolding gift
a_blank_name = refl

pub byte_ff : reading (255 ∷ []) ≡ at_fault 1 1
unfolding gift
byte_ff = refl

-- a carriage return with its line feed ends one line
pub returns_and_feeds : reading (codes "a\r\n\r\n::b") ≡ at_fault 3 4
unfolding gift
returns_and_feeds = refl

-- the choice without a text counts, and the rule is the least
pub choices_65 : reading (codes "a{=~b~b~b~b~b~b~b~b~b~b~b~b~b~b~b~b~b~b~b~b~b~b~b~b~b~b~b~b~b~b~b~b~b~b~b~b~b~b~b~b~b~b~b~b~b~b~b~b~b~b~b~b~b~b~b~b~b~b~b~b~b~b~b~b}") ≡ at_fault 1 2
unfolding gift
choices_65 = refl
