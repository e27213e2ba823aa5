-- What clocks tell.
use Rattle.std.specs.Prelude.{◌≡◌, ℕ, ◌≤◌, nat_lt, if◌then◌else◌, List, length, drop, slice_index_or}
use Rattle.qz_links.specs.declared.std_clock.TheConstants.{GREATEST_MOMENT}

-- a clock in memory tells its moments in order, the last of them again and again, and 0 where it has none
pub record TellsFirst (old : List ℕ) (moment : ℕ) (new : List ℕ) : Type 0 where
  pub moment_is : moment ≡ slice_index_or old 0 0
  pub new_is : new ≡ if nat_lt 1 (length old) then drop 1 old else old

-- the system's clock tells what it told last, or a new moment; none is past the greatest
pub record TellsKept (moment kept : ℕ) : Type 0 where
  pub kept_is : kept ≡ moment
  pub within : moment ≤ GREATEST_MOMENT
