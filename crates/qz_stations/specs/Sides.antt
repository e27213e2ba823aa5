-- Calls at the elements of two lists, side by side.
use Rattle.std.specs.Prelude.{ℕ, List}
use Rattle.std.specs.Fork.{ChangesEach}
use denote.Ref.{MutBor}
use denote.Param.Members.{Shared}

-- each element is what a call at its place left of it
pub record LeaveEach {F T : Type 0} (g : Shared F (ℕ × (MutBor T × Unit {0})) ((Unit {0}) × (MutBor T × Unit {0}))) (f : F) (old new : List T) : Type 0 where
  pub each : ChangesEach g f old new
