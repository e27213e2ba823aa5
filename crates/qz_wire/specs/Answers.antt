-- What the word of a response answers.
use Rattle.std.specs.Prelude.{ℕ, Bool, ◌&&◌, nat_le, if◌then◌else◌, List, [], ◌∷◌, length, Option, Some, None, option_map, option_and_then, bytes_eq, codes}
use Rattle.std.specs.Str.{is_utf8}
use Rattle.qz_grading.specs.declared.limits.TheConstants.{MOST_PARTS, MOST_TEXT}
use Rattle.qz_grading.specs.declared.response.Answer.{Answer}
use Rattle.qz_grading.specs.declared.response.Answer.TheVariants as answer
use Rattle.qz_wire.specs.Lines.{after, number_within}
use Rattle.qz_wire.specs.Words.{onto, parts_at, unescaped}

abbrev pub pick_of : List ℕ → Option Answer
pick_of word = option_map answer.Pick (number_within 1 MOST_PARTS word)

-- ---- lists of numbers

-- what each part spells, from this number to the greatest
abbrev pub each_number : ℕ → List (List ℕ) → Option (List ℕ)
each_number low [] = Some []
each_number low (part ∷ parts) = onto (number_within low MOST_PARTS part) (each_number low parts)

-- one number or more, with a comma between them
abbrev pub numbers_of : ℕ → List ℕ → Option (List ℕ)
numbers_of low word = each_number low (parts_at 44 word)

abbrev pub picks_of : List ℕ → Option Answer
picks_of word = option_map answer.Picks (numbers_of 1 word)

-- where none is chosen stands 0
abbrev pub match_of : List ℕ → Option Answer
match_of word = option_map answer.Match (numbers_of 0 word)

-- ---- typed texts

abbrev pub is_typed : List ℕ → Bool
is_typed text = is_utf8 text && nat_le (length text) MOST_TEXT

-- a text may be empty here
abbrev pub typed_of : List ℕ → Option Answer
typed_of word = option_and_then (λ text. if is_typed text then Some (answer.Words text) else None) (unescaped word)

-- ---- the word

-- what stands behind a front is read in its form; without this front another may stand
abbrev pub behind : Option (List ℕ) → (List ℕ → Option Answer) → Option Answer → Option Answer
behind (Some rest) form other = form rest
behind None form other = other

abbrev pub answer_of : List ℕ → Option Answer
answer_of word =
    if bytes_eq word (codes "blank") then Some answer.Blank
    else behind (after (codes "pick:") word) pick_of
    (behind (after (codes "picks:") word) picks_of
    (behind (after (codes "match:") word) match_of
    (behind (after (codes "text:") word) typed_of None)))
