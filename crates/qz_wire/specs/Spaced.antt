-- Words on a line.
use Rattle.std.specs.Prelude.{ℕ, List, ◌++◌, codes, flat_map}
use Rattle.qz_wire.specs.Escapes.{text_word}

-- each behind a space, and written with its escapes
abbrev pub behind : List (List ℕ) → List ℕ
behind words = flat_map (λ (w : List ℕ). codes " " ++ text_word w) words
