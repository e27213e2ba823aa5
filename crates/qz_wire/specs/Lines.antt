-- The lines of a text, and what words on a line spell.
use Rattle.std.specs.Prelude.{ℕ, Bool, false, not, ◌&&◌, ◌||◌, ◌==◌, nat_le, if◌then◌else◌, List, [], ◌∷◌, length, take, drop, Option, Some, None, bytes_eq}
use Rattle.std.specs.List.{onto_first}
use Rattle.std.specs.Str.{all_ascii_digits}
use Rattle.std.specs.Str.Parse.{digits_value}

-- each ended by a line feed, which the last may lack
abbrev pub lines_of : List ℕ → List (List ℕ)
lines_of [] = []
lines_of (c ∷ cs) = if c == 10 then [] ∷ lines_of cs else onto_first c (lines_of cs)

-- what ends a line
abbrev pub newline : List ℕ
newline = 10 ∷ []

-- what stands after this front
abbrev pub after : List ℕ → List ℕ → Option (List ℕ)
after front line = if bytes_eq (take (length front) line) front then Some (drop (length front) line) else None

-- ---- numbers

-- decimal digits without a leading zero
abbrev pub is_numeral : List ℕ → Bool
is_numeral [] = false
is_numeral (c ∷ cs) = all_ascii_digits (c ∷ cs) && ((length cs == 0) || not (c == 48))

-- the number that digits write, if it is no greater than this
abbrev pub digits_up_to : ℕ → List ℕ → Option ℕ
digits_up_to most word = if all_ascii_digits word && nat_le (digits_value 10 word) most then Some (digits_value 10 word) else None

-- the number in this range that a word spells
abbrev pub number_within : ℕ → ℕ → List ℕ → Option ℕ
number_within low high word = if is_numeral word && (nat_le low (digits_value 10 word) && nat_le (digits_value 10 word) high) then Some (digits_value 10 word) else None
