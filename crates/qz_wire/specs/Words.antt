-- The words of a line, and what each must be.
use Rattle.std.specs.Char.{is_ascii_alphanumeric}
use Rattle.std.specs.List.{list_all, slice_split}
use Rattle.std.specs.Prelude.{◌≡◌, ℕ, Bool, not, ◌&&◌, ◌||◌, ◌==◌, nat_le, if◌then◌else◌, List, [], ◌∷◌, ◌++◌, length, Option, Some, None, option_map, option_and_then, Result, Ok, Err, bytes_eq, codes}
use Rattle.std.specs.Str.{is_utf8}
use Rattle.qz_terms.specs.declared.limits.TheConstants.{GREATEST_MOMENT, LONGEST_DURATION, LONGEST_KEY, MOST_ALLOWED}
use Rattle.qz_grading.specs.declared.refusal.AttemptId.{AttemptId}
use Rattle.qz_wire.specs.declared.words.WordFault.{WordFault}
use Rattle.qz_wire.specs.declared.words.WordFault.TheVariants as fault
use Rattle.qz_wire.specs.Lines.{number_within}

-- the parts of a text that stand between the bytes c
abbrev pub parts_at : ℕ → List ℕ → List (List ℕ)
parts_at c text = slice_split (λ b. b == c) text

-- words have one space between them, so that a word without a byte stands between two spaces
abbrev pub words_of : List ℕ → List (List ℕ)
words_of line = parts_at 32 line

-- the words behind a word: none, or those that follow its space
abbrev pub words_after : List ℕ → List (List ℕ)
words_after [] = []
words_after (c ∷ cs) = words_of cs

-- ---- what a reader of the code answers

-- it stops at the word that isn't of its form, by its number from 1, or where memory is wanting
abbrev pub FailsAt : {Y : Type 0} → WordFault → Result Y ℕ → Type 0
FailsAt fault.Memory reading = Unit {0}
FailsAt (fault.Malformed place) reading = reading ≡ Err place

abbrev pub Reads : {X Y : Type 0} → (X → Y) → Result X WordFault → Result Y ℕ → Type 0
Reads view (Ok x) reading = reading ≡ Ok (view x)
Reads view (Err f) reading = FailsAt f reading

-- ---- texts

-- what a backslash and this byte stand for
abbrev pub escape_of : ℕ → Option ℕ
escape_of c =
    if c == 115 then Some 32
    else (if c == 110 then Some 10
    else (if c == 116 then Some 9
    else (if c == 114 then Some 13
    else (if c == 92 then Some 92 else None))))

-- one before others, if they are there
abbrev pub onto : Option ℕ → Option (List ℕ) → Option (List ℕ)
onto (Some c) text = option_map (λ t. c ∷ t) text
onto None text = None

-- the text that is written with escapes; any other backslash is malformed
abbrev pub unescaped : List ℕ → Option (List ℕ)
unescaped [] = Some []
unescaped (c ∷ []) = if c == 92 then None else Some (c ∷ [])
unescaped (c ∷ d ∷ cs) = if c == 92 then onto (escape_of d) (unescaped cs) else onto (Some c) (unescaped (d ∷ cs))

-- the text that a word spells, which has a byte; `\e` alone is the empty text
abbrev pub text_of : List ℕ → Option (List ℕ)
text_of [] = None
text_of (c ∷ cs) = if bytes_eq (c ∷ cs) (codes "\\e") then Some [] else unescaped (c ∷ cs)

-- bytes that are UTF-8
abbrev pub utf8_of : List ℕ → Option (List ℕ)
utf8_of bytes = if is_utf8 bytes then Some bytes else None

-- a text that is one word
abbrev pub only_word : List (List ℕ) → Option (List ℕ)
only_word (word ∷ []) = Some word
only_word words = None

-- ---- numbers

-- seconds since 1970, up to the year 2099
abbrev pub moment_of : List ℕ → Option ℕ
moment_of word = number_within 0 GREATEST_MOMENT word

-- the number of a thing
abbrev pub number_of : List ℕ → Option ℕ
number_of word = number_within 0 4294967295 word

abbrev pub slot_of : List ℕ → Option ℕ
slot_of word = number_within 0 65535 word

abbrev pub shard_of : List ℕ → Option ℕ
shard_of word = number_within 0 255 word

abbrev pub certainty_of : List ℕ → Option ℕ
certainty_of word = number_within 0 3 word

-- seconds, up to 365 days
abbrev pub duration_of : List ℕ → Option ℕ
duration_of word = number_within 0 LONGEST_DURATION word

-- how many attempts there may be
abbrev pub allowed_of : List ℕ → Option ℕ
allowed_of word = number_within 0 MOST_ALLOWED word

-- `USER.NTH`
abbrev pub attempt_by : List (List ℕ) → Option AttemptId
attempt_by (user ∷ nth ∷ []) = option_and_then (λ u. option_map (λ n. record { user = u; nth = n }) (number_of nth)) (number_of user)
attempt_by parts = None

abbrev pub attempt_of : List ℕ → Option AttemptId
attempt_of word = attempt_by (parts_at 46 word)

-- ---- tokens and keys

-- an ASCII letter or digit, a dash or an underscore
abbrev pub is_token_byte : ℕ → Bool
is_token_byte c = is_ascii_alphanumeric c || ((c == 45) || (c == 95))

abbrev pub is_dash : List ℕ → Bool
is_dash word = bytes_eq word (codes "-")

-- 1 to 64 of them, but not a dash alone
abbrev pub is_token : List ℕ → Bool
is_token word = nat_le 1 (length word) && (nat_le (length word) LONGEST_KEY && (list_all is_token_byte word && not (is_dash word)))

abbrev pub token_of : List ℕ → Option (List ℕ)
token_of word = if is_token word then Some word else None

-- a dash stands for none, and any other word for what it spells
abbrev pub or_dash : {A : Type 0} → (List ℕ → Option A) → List ℕ → Option (Option A)
or_dash reading word = if is_dash word then Some None else option_map (λ x. Some x) (reading word)

abbrev pub key_of : List ℕ → Option (Option (List ℕ))
key_of word = or_dash token_of word

-- a text is cut at the first of these bytes
pub record IsCutAt (c : ℕ) (text front behind : List ℕ) : Type 0 where
  pub joined : text ≡ front ++ c ∷ behind
  pub parts : parts_at c text ≡ front ∷ parts_at c behind
