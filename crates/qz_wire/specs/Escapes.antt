-- How a text is written as one word.
use Rattle.std.specs.Prelude.{ℕ, ◌==◌, if◌then◌else◌, List, [], ◌∷◌, Option, Some, None, codes, flat_map, unwrap_or}

-- what is written for a byte that isn't written as it is
abbrev pub written_for : ℕ → Option (List ℕ)
written_for c =
    if c == 32 then Some (codes "\\s")
    else (if c == 10 then Some (codes "\\n")
    else (if c == 9 then Some (codes "\\t")
    else (if c == 13 then Some (codes "\\r")
    else (if c == 92 then Some (codes "\\\\") else None))))

abbrev pub escaped_byte : ℕ → List ℕ
escaped_byte c = unwrap_or (written_for c) (c ∷ [])

abbrev pub escaped : List ℕ → List ℕ
escaped text = flat_map escaped_byte text

-- the empty text has a word of its own
abbrev pub text_word : List ℕ → List ℕ
text_word [] = codes "\\e"
text_word (c ∷ cs) = escaped (c ∷ cs)
