-- Which typed answers the pattern of a short answer fits.
--     A pattern has `*` for any run of characters, also the empty one, and `\*` for a star. Any other backslash stands
--     for itself. Pattern and typed answer are compared without the white space around them, and after Unicode default
--     case folding. Moodle's documentation has this rule on its page "Short-Answer question type".
-- A text is seen here as the list of its bytes in UTF-8, and characters by their numbers.
use Rattle.std.specs.Prelude.{◌≡◌, ℕ, ◌+◌, Bool, false, ◌&&◌, ◌==◌, nat_eq, if◌then◌else◌, List, [], ◌∷◌, ◌++◌, length, drop, map, chars}
use Rattle.std.specs.Cmp.Lexicographic.{pointwise}
use Rattle.std.specs.List.{list_any, starts_with, onto_first}
use Rattle.std.specs.Str.{skip_leading_whitespace, drop_trailing_whitespace}
use Rattle.caseless.specs.Caseless.{default_case_fold}

-- characters without the white space around them
abbrev pub trimmed : List ℕ → List ℕ
trimmed cs = drop_trailing_whitespace (skip_leading_whitespace cs)

-- the characters of a text that are compared
unfoldable pub folded : List ℕ → List ℕ
folded text = default_case_fold (trimmed (chars text))

-- whether a text has nothing but white space
unfoldable pub is_blank : List ℕ → Bool
is_blank text = length (trimmed (chars text)) == 0

abbrev pub star : ℕ
star = 42

abbrev pub backslash : ℕ
backslash = 92

-- the plain runs between the stars of a pattern, of which there is one more than stars; `\*` is a plain star in its run
abbrev pub plain_parts : List ℕ → List (List ℕ)
plain_parts [] = [] ∷ []
plain_parts (c ∷ []) = if c == star then [] ∷ [] ∷ [] else (c ∷ []) ∷ []
plain_parts (c ∷ d ∷ cs) =
    if (c == backslash) && (d == star) then onto_first star (plain_parts cs)
    else (if c == star then [] ∷ plain_parts (d ∷ cs) else onto_first c (plain_parts (d ∷ cs)))

-- the plain parts of a pattern's text, as they are compared
unfoldable pub folded_parts : List ℕ → List (List ℕ)
folded_parts pattern = map default_case_fold (plain_parts (trimmed (chars pattern)))

-- parts in order, with a run between each two
abbrev pub woven : List (List ℕ) → List (List ℕ) → List ℕ
woven [] runs = []
woven (part ∷ parts) [] = part
woven (part ∷ parts) (run ∷ runs) = part ++ (run ++ woven parts runs)

-- the text is the parts in order, with a run of characters, maybe the empty one, in place of each star
pub record FitsParts (parts : List (List ℕ)) (text : List ℕ) : Type 0 where
  pub runs : List (List ℕ)
  pub one_each : length runs + 1 ≡ length parts
  pub filled : text ≡ woven parts runs

-- a typed text fits a pattern
abbrev pub PatternFits : List ℕ → List ℕ → Type 0
PatternFits pattern typed = FitsParts (folded_parts pattern) (folded typed)

-- each ending of a list, from itself to the empty one
abbrev pub endings : List ℕ → List (List ℕ)
endings [] = [] ∷ []
endings (c ∷ cs) = (c ∷ cs) ∷ endings cs

-- `FitsParts` as a test: the text begins with the first part, and some ending of what follows fits the later parts
abbrev pub fits_parts : List (List ℕ) → List ℕ → Bool
fits_parts [] text = false
fits_parts (part ∷ []) text = pointwise nat_eq text part
fits_parts (part ∷ next ∷ later) text =
    starts_with nat_eq text part && list_any (fits_parts (next ∷ later)) (endings (drop (length part) text))

-- `PatternFits` as a test
unfoldable pub pattern_fits : List ℕ → List ℕ → Bool
pattern_fits pattern typed = fits_parts (folded_parts pattern) (folded typed)
