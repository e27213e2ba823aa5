-- The sums of marks, one slot more at a time.
use Rattle.std.specs.Prelude.{◌≡◌, ◌*◌, ◌-◌, ◌^◌, ◌<◌, ◌≤◌, List, length, filter_map, pos, neg_ℤ, ◌≤ℤ◌, unsigned_abs}
use Rattle.qz_decimal.specs.Numbers.{one}
use Rattle.qz_terms.specs.History.{Slot}
use Rattle.qz_stats.specs.declared.marks.Marks.{Marks}
use Rattle.qz_stats.specs.Rows.{mark_sum, marked, max_sum}

-- of these slots; a mark is at most six max marks, and a max mark at most 10,000
pub record AreSums (m : Marks) (xs : List Slot) : Type 0 where
  pub tried : m.tried ≡ length (filter_map marked xs)
  pub marks : m.marks ≡ mark_sum (filter_map marked xs)
  pub maxes : m.maxes ≡ max_sum (filter_map marked xs)
  pub few : m.tried ≤ length xs
  pub least : pos 0 ≤ℤ m.maxes
  pub most : unsigned_abs m.maxes ≤ 10000 * one * length xs
  pub within : unsigned_abs m.marks ≤ 6 * unsigned_abs m.maxes

-- so much that one slot more is still within the numbers
pub record HaveRoom (m : Marks) : Type 0 where
  pub tried : m.tried < 2 ^ 32 - 1
  pub marks_least : neg_ℤ (pos (2 ^ 80)) ≤ℤ m.marks
  pub marks_most : m.marks ≤ℤ pos (2 ^ 80)
  pub maxes_least : neg_ℤ (pos (2 ^ 80)) ≤ℤ m.maxes
  pub maxes_most : m.maxes ≤ℤ pos (2 ^ 80)
