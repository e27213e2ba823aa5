-- Words that are no flags.
use Rattle.std.specs.Prelude.{ℕ, ◌==◌, Bool, false, List, [], ◌∷◌}
use Rattle.std.specs.List.{list_any}

-- a word that begins with a dash
abbrev pub is_flag : List ℕ → Bool
is_flag [] = false
is_flag (c ∷ cs) = c == 45

abbrev pub has_flag : List (List ℕ) → Bool
has_flag words = list_any is_flag words
