-- What fails no call.
use Rattle.std.specs.Prelude.{◌≡◌, ℕ}

-- A call of what fails none: this failure didn't come, the count of faults stayed, and it fails no call from then on either.
pub record StaysSound (was is : Type 0) (before now : ℕ) (failed : Type 0) : Type 0 where
  pub works : was → failed → ⊥
  pub steady : was → now ≡ before
  pub still : was → is
