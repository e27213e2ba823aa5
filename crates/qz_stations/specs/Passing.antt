-- A school that is served and regraded side by side, and then regraded once more alone.
use Rattle.std.specs.Prelude.{◌≡◌, ℕ, ◌<◌, List, [], ◌∷◌, ◌++◌, slice_get, Option, Some, None}
use Rattle.qz_regrading.specs.declared.ends.LoopEnd.{LoopEnd}
use Rattle.qz_regrading.specs.Loops.{LoopEnds, Regrades}
use Rattle.qz_school.specs.Answering.{IsServed}
use Rattle.qz_school.specs.Solos.{School, faults_of, lists_in}
use Rattle.qz_stations.specs.declared.ends.ServeEnd.{ServeEnd}
use Rattle.qz_stations.specs.Stations.{GrowsWith, RegradesBeside, ServesBeside, Serving}
use Rattle.qz_visit.specs.Closing.{Closes}
use Rattle.qz_visit.specs.Opening.{told_by}

-- these doors, with this clock at the first
abbrev pub with_clock : {D C : Type 0} → C → List (D × C) → List (D × C)
with_clock clock [] = []
with_clock clock (d ∷ ds) = (d.0, clock) ∷ ds

-- The last pass: a worker's requests, each answered as a school's that nobody else asks, lead from one school to another, over which it ended
-- so. The clock of the first door told the moments.
pub record IsPassed {K D C : Type 0} (tells : C → ℕ → C → Type 0) (sound : K → Type 0) (faults : K → ℕ) (a b : School K) (old new : List (D × C)) (end : LoopEnd) : Type 0 where
  pub door : D
  pub before : C
  pub clock : C
  pub first : slice_get old 0 ≡ Some (door, before)
  pub regrades : Regrades tells (IsServed sound faults) lists_in (record { desk = a; clock = before }) (record { desk = b; clock = clock }) end
  pub ends : LoopEnds (lists_in b) (faults_of faults a) (faults_of faults b) end
  pub doors : new ≡ with_clock clock old

-- There is a last pass exactly where somebody regraded beside the doors.
abbrev pub Lasts : {K D C : Type 0} → (C → ℕ → C → Type 0) → (K → Type 0) → (K → ℕ) → (regraders : ℕ) → (a b : School K) → (old new : List (D × C)) → Option LoopEnd → Type 0
Lasts tells sound faults regraders a b old new None = (regraders ≡ 0) × (b ≡ a) × (new ≡ old)
Lasts tells sound faults regraders a b old new (Some end) = (0 < regraders) × IsPassed tells sound faults a b old new end

-- The first so many doors of a school were served side by side, while so many regraded beside them. Each list of the school that all of them
-- left goes on from what it was, and from what was seen of it at each door, and is longer by as many records as their turns put. The last pass
-- led on from there.
pub record ServesSchool {K D C : Type 0} (sound : K → Type 0) (faults : K → ℕ) (serves : Serving D C) (workers regraders : ℕ) (a b : School K) (old new : List (D × C)) (end : ServeEnd) : Type 0 where
  pub left : School K
  pub closes : Closes faults (told_by faults a) left
  pub after : List (D × C)
  pub beside : ServesBeside serves (told_by faults a) (λ seen. Closes faults seen left) workers old after end.doors
  pub regraded : RegradesBeside serves.tells (told_by faults a) (λ seen. Closes faults seen left) regraders
  pub grows : GrowsWith (beside.lasts ++ regraded.lasts) a left
  pub last : Lasts serves.tells sound faults regraders left b after new end.last

-- memory was wanting before any door was served
pub record ServesNone {K D C : Type 0} (faults : K → ℕ) (a b : School K) (old new : List (D × C)) : Type 0 where
  pub closes : Closes faults (told_by faults a) b
  pub stay : new ≡ old
