-- What callers say of their passes: the tests show such callers.
use Rattle.std.specs.Prelude.{◌≡◌, ℕ, ◌<◌, List, [], ◌∷◌, length, slice_index_or}
use Rattle.qz_turn.specs.Passes.{Lock, Standing}

module _ {I K : Type 0} where
  -- a pass of this lock, with this one number
  abbrev pub HasNumber : Lock K → ℕ → Standing I K → Type 0
  HasNumber lock number pass = (pass.lock ≡ lock) × (pass.numbers ≡ number ∷ [])

  -- the pass kept its lock and its numbers
  abbrev pub KeepsRights : Standing I K → Standing I K → Type 0
  KeepsRights before after = (after.lock ≡ before.lock) × (after.numbers ≡ before.numbers)

-- passes of one lock, of which the one at place i has the number i
pub record AreNumbered {I K : Type 0} (lock : Lock K) (passes : List (Standing I K)) : Type 0 where
  pub each : (i : ℕ) (d : Standing I K) → i < length passes → HasNumber lock i (slice_index_or passes i d)

-- each pass kept its lock and its numbers
pub record KeepRights {I K : Type 0} (before after : List (Standing I K)) : Type 0 where
  pub len : length after ≡ length before
  pub each : (i : ℕ) (d : Standing I K) → i < length before → KeepsRights (slice_index_or before i d) (slice_index_or after i d)
