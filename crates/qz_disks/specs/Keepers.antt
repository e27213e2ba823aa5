-- What the calls of a keeper of payloads do to the list that it keeps.
use Rattle.std.specs.Prelude.{◌≡◌, ◌⊎◌, ℕ, ◌≤◌, List, [], ◌∷◌, ◌++◌, Option, Some, None, option_map, IfSome, Result, IsErrOf, MatchResult}
use Rattle.qz_outside.specs.Causes.{HasRisen}
use Rattle.qz_disks.specs.declared.keeper.KeepErr.{KeepErr}
use Rattle.qz_disks.specs.declared.keeper.KeepErr.TheVariants.{Fault, Memory}

-- a list of payloads with one more
abbrev pub with_one_more : List ℕ → List (List ℕ) → List (List ℕ)
with_one_more payload payloads = payloads ++ payload ∷ []

-- the lists that a keeper may turn out to keep: its list, or that with the payload in doubt
abbrev pub MayStand : List (List ℕ) → Option (List ℕ) → List (List ℕ) → Type 0
MayStand payloads None found = found ≡ payloads
MayStand payloads (Some payload) found = (found ≡ payloads) ⊎ (found ≡ with_one_more payload payloads)

-- what an append leaves of the list and of the payload in doubt
pub record Kept (old new : Option (List (List ℕ))) (doubt : Option (List ℕ)) (payload : List ℕ) : Type 0 where
  pub kept : new ≡ option_map (with_one_more payload) old
  pub no_doubt : doubt ≡ None

pub record LeftInDoubt (old new : Option (List (List ℕ))) (doubt : Option (List ℕ)) (payload : List ℕ) : Type 0 where
  pub kept : new ≡ old
  pub in_doubt : doubt ≡ Some payload

pub record NotKept (old new : Option (List (List ℕ))) (doubt : Option (List ℕ)) : Type 0 where
  pub kept : new ≡ old
  pub no_doubt : doubt ≡ None

abbrev FailsAppending : Option (List (List ℕ)) → Option (List (List ℕ)) → Option (List ℕ) → List ℕ → KeepErr → Type 0
FailsAppending old new doubt payload Fault = LeftInDoubt old new doubt payload
FailsAppending old new doubt payload Memory = NotKept old new doubt

abbrev pub EndsAppending : Option (List (List ℕ)) → Option (List (List ℕ)) → Option (List ℕ) → List ℕ → Result (Unit {0}) KeepErr → Type 0
EndsAppending old new doubt payload result = MatchResult result (λ _. Kept old new doubt payload) (FailsAppending old new doubt payload)

-- what a keeper found when it was opened again: a list that may stand, which it keeps from then on
pub record Reopens (old new : Option (List (List ℕ))) (doubt_before doubt_now : Option (List ℕ)) (found : List (List ℕ)) : Type 0 where
  pub stands : IfSome old (λ payloads. MayStand payloads doubt_before found)
  pub kept : new ≡ option_map (λ _. found) old
  pub no_doubt : doubt_now ≡ None

-- a keeper that was not opened again keeps its list, and its doubt
pub record StaysShut (old new : Option (List (List ℕ))) (doubt_before doubt_now : Option (List ℕ)) : Type 0 where
  pub kept : new ≡ old
  pub same_doubt : doubt_now ≡ doubt_before

abbrev pub EndsReopening : Option (List (List ℕ)) → Option (List (List ℕ)) → Option (List ℕ) → Option (List ℕ) → Result (List (List ℕ)) KeepErr → Type 0
EndsReopening old new doubt_before doubt_now result = MatchResult result (Reopens old new doubt_before doubt_now) (λ _. StaysShut old new doubt_before doubt_now)

-- a keeper's count of faults never falls, and `Fault` is told only where it rose
pub record HasKeepCause {T : Type 0} (before now : ℕ) (result : Result T KeepErr) : Type 0 where
  pub later : before ≤ now
  pub failed : IsErrOf result Fault → HasRisen before now
