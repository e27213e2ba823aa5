-- Totals that are taken for a grade, one attempt more at a time.
use Rattle.std.specs.Int.{int_max}
use Rattle.std.specs.Prelude.{◌≡◌, ℕ, ◌≤◌, ◌*◌, List, length, Option, Some, None, ℤ, filter_map, unsigned_abs}
use Rattle.qz_decimal.specs.Numbers.{one}
use Rattle.qz_terms.specs.Rows.{sum_of}
use Rattle.qz_gradebook.specs.declared.finished.Finished.{Finished}
use Rattle.qz_gradebook.specs.Totals.{total}

-- the greater of two, of those that are there
abbrev pub greater : Option ℤ → Option ℤ → Option ℤ
greater None t = t
greater (Some b) None = Some b
greater (Some b) (Some t) = Some (int_max b t)

-- what the totals that are there add up to, and how many they are
pub record IsAdded (attempts : List Finished) (sum : ℤ) (count : ℕ) : Type 0 where
  pub sum_is : sum ≡ sum_of (filter_map total attempts)
  pub count_is : count ≡ length (filter_map total attempts)
  pub range : unsigned_abs sum ≤ count * (12000000 * one)
