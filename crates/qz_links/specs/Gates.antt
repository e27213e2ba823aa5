-- Which calls of an object in memory wait at gates and open them.
use Rattle.std.specs.Prelude.{◌≡◌, ℕ, Bool, false, Option, None, Some, IsTrue, ◌⊎◌}
use Rattle.qz_outside.specs.Causes.{counted}

-- the number of the call that waits at a gate and of the one that opens one, how many calls there were, and whether the
-- call that waits left a closed gate
pub record Gating : Type 0 where
  pub waits : Option ℕ
  pub opens : Option ℕ
  pub calls : ℕ
  pub ran_out : Bool

-- no call waits, and none opens a gate
abbrev pub ungated : Gating
ungated = record { waits = None; opens = None; calls = 0; ran_out = false }

-- one more call: none but the one that waits leaves a closed gate, and that this happened stays told
pub record Passes (old new : Gating) : Type 0 where
  pub after : new ≡ record old { calls = counted old.calls; ran_out = new.ran_out }
  pub told : IsTrue old.ran_out → IsTrue new.ran_out
  pub waited : IsTrue new.ran_out → IsTrue old.ran_out ⊎ (old.waits ≡ Some new.calls)
