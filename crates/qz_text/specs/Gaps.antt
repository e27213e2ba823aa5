-- How a pattern is kept and matched: the bytes of its parts, with a gap, a byte that no text has, between each two.
use Rattle.std.specs.Prelude.{◌≡◌, ℕ, Bool, ◌+◌, ◌==◌, List, ◌++◌, length, drop}
use Rattle.std.specs.List.{join_with_byte, slice_split}
use Rattle.memchr.specs.Find.{OccursAt, Nowhere}
use Rattle.qz_text.specs.Patterns.{FitsParts}

abbrev pub gap : ℕ
gap = 255

-- the parts, with a gap between each two
abbrev pub joined : List (List ℕ) → List ℕ
joined = join_with_byte gap

abbrev pub is_gap : ℕ → Bool
is_gap b = b == gap

abbrev pub parts_between_gaps : List ℕ → List (List ℕ)
parts_between_gaps = slice_split is_gap

-- some ending of the text fits the parts
pub record EndingFits (parts : List (List ℕ)) (text : List ℕ) : Type 0 where
  pub front : List ℕ
  pub ending : List ℕ
  pub split : text ≡ front ++ ending
  pub fits : FitsParts parts ending

-- the part stands nowhere in the text
abbrev pub StandsNowhere : List ℕ → List ℕ → Type 0
StandsNowhere part text = Nowhere (OccursAt text part) 0 (length text + 1)

-- what follows the first place of the part in the text
pub record FollowsFirst (part text rest : List ℕ) : Type 0 where
  pub place : ℕ
  pub stands : OccursAt text part place
  pub first : Nowhere (OccursAt text part) 0 place
  pub after : rest ≡ drop (place + length part) text
