-- Room for what a list gets, beside the list.
use Rattle.std.specs.Prelude.{◌≡◌, ℕ, ◌≤◌, [], Vec, vec_capacity}

-- nothing stands in it yet, and so many items fit
pub record IsRoom {A Z : Type 0} (count : ℕ) (room : Vec A Z) : Type 0 where
  pub empty : room.items ≡ []
  pub fits : count ≤ vec_capacity room
