-- What becomes of a catalogue's keeper whose list is read: it is founded where it kept no payload.
use Rattle.std.specs.Prelude.{◌≡◌, ◌≢◌, ℕ, ◌≤◌, List, [], Result, Ok, Err}
use Rattle.qz_disks.specs.declared.keeper.KeepErr.{KeepErr}
use Rattle.qz_disks.specs.declared.keeper.KeepErr.TheVariants as keep
use Rattle.qz_disks.specs.Keepers.{EndsAppending}
use Rattle.qz_loading.specs.declared.fault.LoadFault.{LoadFault}
use Rattle.qz_loading.specs.declared.fault.LoadFault.TheVariants.{Fault, Memory}
use Rattle.qz_outside.specs.Causes.{HasRisen}
use Rattle.qz_sqlfolders.specs.Folders.{Telling}
use Rattle.qz_sqlite.specs.Reading.{founding_of}

-- The keeper is as it was where it kept a payload, and where memory was wanting. Else the founding was appended, which ended so.
pub data Founds {K : Type 0} (t : Telling K) (token : List ℕ) (payloads : List (List ℕ)) (old new : K) (outcome : Result (Unit {0}) KeepErr) : Type 0 where
  stood : payloads ≢ [] → new ≡ old → outcome ≡ Ok tt → Founds t token payloads old new outcome
  wanting : payloads ≡ [] → new ≡ old → outcome ≡ Err keep.Memory → Founds t token payloads old new outcome
  asked : payloads ≡ [] → EndsAppending (t.kept old) (t.kept new) (t.doubt new) (founding_of token) outcome → Founds t token payloads old new outcome

-- what is told of a school by how its founding ended
abbrev pub IsToldAfter : Result (Unit {0}) KeepErr → LoadFault → Type 0
IsToldAfter (Ok done) told = told ≢ Fault
IsToldAfter (Err keep.Fault) told = told ≡ Fault
IsToldAfter (Err keep.Memory) told = told ≡ Memory

-- The keeper is given back, and this is told: it is as it was, or its list without a payload was to be founded.
pub record IsGivenBack {K : Type 0} (t : Telling K) (token : List ℕ) (payloads : List (List ℕ)) (old new : K) (told : LoadFault) : Type 0 where
  pub outcome : Result (Unit {0}) KeepErr
  pub founds : Founds t token payloads old new outcome
  pub told_after : IsToldAfter outcome told

-- a count of faults didn't fall, and rose where a fault is told
pub record Counts (before now : ℕ) (told : LoadFault) : Type 0 where
  pub later : before ≤ now
  pub risen : told ≡ Fault → HasRisen before now
