-- What the parts of a page are made of.
use Rattle.std.specs.Prelude.{ℕ, List, [], ◌∷◌, filter, Option, Some, None}
use Rattle.qz_grading.specs.declared.question.Rich.{Rich}
use Rattle.qz_terms.specs.Parts.{nonempty}

-- one feedback, if it is there and isn't empty
abbrev pub alone : Option Rich → List (List ℕ)
alone None = []
alone (Some r) = filter nonempty (r.text ∷ [])
