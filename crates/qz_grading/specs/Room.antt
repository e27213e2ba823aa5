-- Room for the bytes of a canonical text.
use Rattle.std.specs.Prelude.{ℕ, ◌-◌, ◌≤◌, ◌++◌, List, [], flat_map, codes, Option}
use Rattle.std.specs.Option.{SomeIff}
use Rattle.qz_grading.specs.declared.question.Format.{Format}
use Rattle.qz_grading.specs.declared.question.Kind.{Kind}
use Rattle.qz_grading.specs.declared.question.Kind.TheVariants as kind
use Rattle.qz_grading.specs.Canonical.{single_choices, tilde_choice, pair_piece, short_piece, num_piece}

-- what is left of a room behind so many bytes, where they fit
abbrev pub LeftBehind : ℕ → ℕ → Option ℕ → Type 0
LeftBehind count room left = SomeIff left (count ≤ room) (room - count)

-- the lines of the pieces in a canonical answer part, and the hash of a numerical one
abbrev pub pieces_text : Kind → Format → List ℕ
pieces_text (kind.One choices) default = single_choices default choices
pieces_text (kind.Several choices) default = flat_map (tilde_choice default) choices
pieces_text (kind.Matching pairs) default = flat_map (pair_piece default) pairs
pieces_text (kind.ShortAnswer answers) default = flat_map (short_piece default) answers
pieces_text (kind.Numerical answers) default = codes "#" ++ flat_map (num_piece default) answers
pieces_text k default = []
