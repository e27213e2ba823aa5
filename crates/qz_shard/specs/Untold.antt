-- A last record whose reply isn't kept yet.
use Rattle.std.specs.Prelude.{◌≡◌, ℕ, true, List, [], ◌∷◌, ◌++◌, take, slice_get, Some}
use Rattle.qz_index.specs.declared.keys.Keys.{Keys}
use Rattle.qz_index.specs.Keys.{AreKeys, HasKeyRoom}
use Rattle.qz_terms.specs.declared.record.Record.{Record}
use Rattle.qz_terms.specs.Kept.{IsKept}
use Rattle.qz_book.specs.Held.{is_asked}

-- the last record stands at this place, from 0, and what is said of it isn't kept yet
pub record IsUntold (keys : Keys) (h : List Record) (place : ℕ) : Type 0 where
  pub made : Record
  pub stands : h ≡ take place h ++ made ∷ []
  pub at : slice_get h place ≡ Some made
  pub before : AreKeys keys (take place h)
  pub room : HasKeyRoom keys made
  pub kept : IsKept made
  pub asked : is_asked made ≡ true
