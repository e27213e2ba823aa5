-- What marks spell: a text, a text with its format, a name, a path.
use Rattle.std.specs.Prelude.{ℕ, Bool, false, ◌&&◌, if◌then◌else◌, List, [], ◌∷◌, length, map, take, drop, find, unwrap_or, Option, None, Some, codes, bytes_eq, encode_utf8_all}
use Rattle.gift_lex.specs.Blocks.{space}
use Rattle.qz_grading.specs.declared.question.Format.{Format}
use Rattle.qz_grading.specs.declared.question.Format.TheVariants as format
use Rattle.qz_grading.specs.declared.question.Rich.{Rich}
use Rattle.qz_grading.specs.Canonical.{format_mark, is_nothing}
use Rattle.gift_read.specs.Places.{Marks, character, is_space, characters_at, trimmed}

-- the bytes of the characters
abbrev pub spelled : Marks → List ℕ
spelled marks = encode_utf8_all (map character marks)

-- a text has no outer white space
abbrev pub text_of : Marks → List ℕ
text_of marks = spelled (trimmed marks)

-- whether marks are these characters
abbrev pub spells : List ℕ → Marks → Bool
spells word marks = bytes_eq (map character marks) word

-- ---- texts with a format

-- the format that marks name in brackets at their front
abbrev pub named_format : Marks → Option Format
named_format marks = find (λ f. characters_at (format_mark f) marks) (format.Moodle ∷ format.Html ∷ format.Plain ∷ format.Markdown ∷ [])

-- what stands behind its name
abbrev pub behind_format : Option Format → Marks → Marks
behind_format None marks = marks
behind_format (Some f) marks = trimmed (drop (length (format_mark f)) marks)

-- the marks of the text itself
abbrev pub shown : Marks → Marks
shown marks = behind_format (named_format (trimmed marks)) (trimmed marks)

-- the text, in the format that it names or else in this one
abbrev pub formatted : Format → Marks → Rich
formatted default marks = record { format = unwrap_or (named_format (trimmed marks)) default; text = spelled (shown marks) }

-- an empty text names no format
abbrev pub rich_of : Format → Marks → Rich
rich_of default marks = if is_nothing (spelled (shown marks)) then record { format = default; text = [] } else formatted default marks

-- ---- a name made from a text

abbrev pub begins_blank : Marks → Bool
begins_blank [] = false
begins_blank (m ∷ marks) = is_space m

-- characters with each run of white space as one space
abbrev pub single_spaced : Marks → List ℕ
single_spaced [] = []
single_spaced (m ∷ marks) =
    if is_space m && begins_blank marks then single_spaced marks
    else (if is_space m then space else character m) ∷ single_spaced marks

abbrev pub or_question : List ℕ → List ℕ
or_question [] = codes "Question"
or_question (b ∷ name) = b ∷ name

-- the first 80 characters of a text, or a word where they are blank
abbrev pub made_name : Marks → List ℕ
made_name marks = or_question (encode_utf8_all (single_spaced (trimmed (take 80 marks))))
