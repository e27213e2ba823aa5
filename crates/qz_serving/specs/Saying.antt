-- What is said of the doors of a school that were served side by side.
use Rattle.std.specs.Prelude.{◌≡◌, ℕ, Bool, true, false, ◌||◌, nat_lt, List, Option, Some, Result, MatchResult, slice_get}
use Rattle.std.specs.Io.KnownBytes.{Keeps}
use Rattle.qz_outside.specs.Causes.{HasRisen}
use Rattle.qz_ending.specs.declared.stop.Stop.{Stop}
use Rattle.qz_ending.specs.declared.stop.Stop.TheVariants as stop
use Rattle.qz_regrading.specs.declared.ends.LoopEnd.{LoopEnd}
use Rattle.qz_regrading.specs.declared.ends.LoopEnd.TheVariants as ends
use Rattle.qz_served.specs.declared.saying.Served.{Served}
use Rattle.qz_served.specs.Saying.{SaysServed}
use Rattle.qz_stations.specs.declared.ends.ServeEnd.{ServeEnd}

-- the last pass ended for want of memory
abbrev pub is_last_short : Option LoopEnd → Bool
is_last_short (Some ends.Short) = true
is_last_short end = false

-- whether memory was wanting for a link, or at last for a worker that regrades
abbrev pub is_short : ServeEnd → Bool
is_short end = nat_lt 0 end.doors.short || is_last_short end.last

-- how serving them ended
abbrev pub served_by : ServeEnd → Served
served_by end = record { taken = end.doors.taken; fault = end.doors.fault; short = is_short end }

-- nothing is written of doors that weren't served, since memory was wanting
abbrev pub SaysOf : {E : Type 0} → Option (List ℕ) → Option (List ℕ) → ℕ → ℕ → Result ServeEnd E → Option Stop → Type 0
SaysOf old new before now served s =
    MatchResult served (λ end. SaysServed old new before now (served_by end) s) (λ _. (s ≡ Some stop.Memory) × Keeps old new)

-- no door's count of faults rose
pub record NoDoorFails {D C : Type 0} (faults : D → ℕ) (doors after : List (D × C)) : Type 0 where
  pub each : (k : ℕ) (old new : D × C) → slice_get doors k ≡ Some old → slice_get after k ≡ Some new → ¬ HasRisen (faults old.0) (faults new.0)
