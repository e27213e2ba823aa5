-- Category lines, and the names on their paths.
use Rattle.std.specs.Prelude.{ℕ, Bool, false, not, ◌&&◌, ◌||◌, ◌==◌, if◌then◌else◌, List, [], ◌∷◌, map, drop, codes}
use Rattle.std.specs.List.{list_any, onto_first, flat_map}
use Rattle.gift_lex.specs.declared.block.Piece.{Piece}
use Rattle.gift_lex.specs.declared.block.Piece.TheVariants.{Escaped, Sign, Plain}
use Rattle.gift_lex.specs.Blocks.{backslash, letter_n, line_feed}
use Rattle.qz_grading.specs.Canonical.{is_nothing, begins_with}
use Rattle.gift_read.specs.Places.{Marks, character, is_space, signs_at, characters_at, from}
use Rattle.gift_read.specs.Texts.{text_of}

-- ---- the line

-- white space that is no escape
abbrev pub is_indented : Piece → Bool
is_indented (Escaped c) = false
is_indented m = is_space m

abbrev pub begins_line : Marks → Bool
begins_line [] = false
begins_line (m ∷ marks) = not (is_indented m)

-- marks without the white space and comments before them
abbrev pub line_marks : Marks → Marks
line_marks marks = from begins_line marks

-- whether a block is a category line
abbrev pub is_category : Marks → Bool
is_category marks = characters_at (codes "$CATEGORY") (line_marks marks) && signs_at (codes ":") (drop 9 (line_marks marks))

-- ---- the path

-- In a path each backslash stands for itself.
abbrev pub written : Piece → Marks
written (Escaped c) = Plain backslash ∷ Plain (if c == line_feed then letter_n else c) ∷ []
written (Sign c) = Plain c ∷ []
written (Plain c) = Plain c ∷ []

abbrev pub path_marks : Marks → Marks
path_marks marks = flat_map written (drop 10 (line_marks marks))

abbrev pub slash : ℕ
slash = 47

abbrev pub is_slash : Piece → Bool
is_slash m = character m == slash

-- From the left, two slashes are a slash in a name, and one stands between names.
abbrev pub names : Marks → List Marks
names [] = [] ∷ []
names (m ∷ []) = if is_slash m then [] ∷ [] ∷ [] else (m ∷ []) ∷ []
names (m ∷ n ∷ marks) =
    if is_slash m && is_slash n then onto_first m (names marks)
    else (if is_slash m then [] ∷ names (n ∷ marks) else onto_first m (names (n ∷ marks)))

-- the names on the path of a category line
abbrev pub path : Marks → List (List ℕ)
path marks = map text_of (names (path_marks marks))

-- a name is blank, or begins with a slash
abbrev pub is_bad_name : List ℕ → Bool
is_bad_name name = is_nothing name || begins_with slash name

abbrev pub is_bad_path : Marks → Bool
is_bad_path marks = list_any is_bad_name (path marks)
