-- Places in a block, told by a test of the marks from there on, and what stands before and behind them.
use Rattle.std.specs.Prelude.{ℕ, Bool, true, false, not, ◌&&◌, ◌||◌, ◌==◌, if◌then◌else◌, List, [], ◌∷◌, drop, codes}
use Rattle.std.specs.List.{list_any, list_all}
use Rattle.gift_lex.specs.declared.block.Piece.{Piece}
use Rattle.gift_lex.specs.declared.block.Piece.TheVariants.{Escaped, Sign, Plain}
use Rattle.qz_grading.specs.Grading as grading
use Rattle.gift_read.specs.declared.places.Landmark.{Landmark}
use Rattle.gift_read.specs.declared.places.Landmark.TheVariants as landmark

abbrev pub Marks : Type 0
Marks = List Piece

-- ---- one mark

-- the character that it stands for
abbrev pub character : Piece → ℕ
character (Escaped c) = c
character (Sign c) = c
character (Plain c) = c

-- space, tab and line feed, also one that is written with a backslash
abbrev pub is_space : Piece → Bool
is_space m = grading.is_space (character m)

abbrev pub is_this_sign : ℕ → Piece → Bool
is_this_sign s (Escaped c) = false
is_this_sign s (Sign c) = c == s
is_this_sign s (Plain c) = false

abbrev pub tilde : ℕ
tilde = 126

abbrev pub equals : ℕ
equals = 61

-- a choice begins with either sign
abbrev pub begins_choice : Piece → Bool
begins_choice m = is_this_sign tilde m || is_this_sign equals m

-- ---- what marks begin with

-- these signs
abbrev pub signs_at : List ℕ → Marks → Bool
signs_at [] marks = true
signs_at (s ∷ signs) [] = false
signs_at (s ∷ signs) (m ∷ marks) = is_this_sign s m && signs_at signs marks

-- these characters, signs or not
abbrev pub characters_at : List ℕ → Marks → Bool
characters_at [] marks = true
characters_at (c ∷ word) [] = false
characters_at (c ∷ word) (m ∷ marks) = character m == c && characters_at word marks

-- the feedback for every other number: a tilde and a hash, behind which nothing begins
abbrev pub others_at : Marks → Bool
others_at marks = signs_at (codes "~#") marks && not (list_any begins_choice (drop 2 marks))

-- what is looked for
abbrev pub is_at : Landmark → Marks → Bool
is_at landmark.Colons marks = signs_at (codes "::") marks
is_at landmark.Opening marks = signs_at (codes "{") marks
is_at landmark.Closing marks = signs_at (codes "}") marks
is_at landmark.Brace marks = signs_at (codes "{") marks || signs_at (codes "}") marks
is_at landmark.Hash marks = signs_at (codes "#") marks
is_at landmark.Hashes marks = signs_at (codes "####") marks
is_at landmark.Tilde marks = signs_at (codes "~") marks
is_at landmark.Equals marks = signs_at (codes "=") marks
is_at landmark.Choice marks = signs_at (codes "~") marks || signs_at (codes "=") marks
is_at landmark.Others marks = others_at marks
is_at landmark.Arrow marks = characters_at (codes "->") marks
is_at landmark.Percent marks = characters_at (codes "%") marks
is_at landmark.Points marks = characters_at (codes "..") marks
is_at landmark.Colon marks = characters_at (codes ":") marks

-- ---- places

-- what stands before the first place where a test holds: everything, where there is none
abbrev pub before : (Marks → Bool) → Marks → Marks
before here [] = []
before here (m ∷ marks) = if here (m ∷ marks) then [] else m ∷ before here marks

-- what stands from there on: nothing, where there is none
abbrev pub from : (Marks → Bool) → Marks → Marks
from here [] = []
from here (m ∷ marks) = if here (m ∷ marks) then m ∷ marks else from here marks

-- whether there is one
abbrev pub occurs : (Marks → Bool) → Marks → Bool
occurs here [] = false
occurs here (m ∷ marks) = here (m ∷ marks) || occurs here marks

-- the last such place: there is none behind it
abbrev pub is_last : (Marks → Bool) → Marks → Bool
is_last here [] = false
is_last here (m ∷ marks) = here (m ∷ marks) && not (occurs here marks)

-- ---- outer white space

-- whether all is white space
abbrev pub are_blank : Marks → Bool
are_blank marks = list_all is_space marks

abbrev pub is_ink : Marks → Bool
is_ink [] = false
is_ink (m ∷ marks) = not (is_space m)

-- marks without the white space before them
abbrev pub unled : Marks → Marks
unled marks = from is_ink marks

-- and without that behind them
abbrev pub trimmed : Marks → Marks
trimmed marks = before are_blank (unled marks)
