-- What a call does to what takes the records of a list before they are put, and how a keeper serves a call.
use Rattle.std.specs.Prelude.{◌≡◌, ℕ, ◌≤◌, List, [], ◌∷◌, ◌++◌, length, Option, Some, None, Result, Ok, Err}
use Rattle.qz_disks.specs.declared.keeper.KeepErr.{KeepErr}
use Rattle.qz_disks.specs.declared.keeper.KeepErr.TheVariants.{Fault, Memory}
use Rattle.qz_keeper.specs.Custody.{Appends, Custody, IsReady}
use Rattle.qz_outside.specs.Causes.{HasRisen}
use Rattle.qz_terms.specs.declared.record.Record.{Record}
use Rattle.qz_terms.specs.declared.limits.TheConstants.{MOST_RECORD}
use Rattle.qz_terms.specs.Spelling.{spelling}

-- How a keeper served a call: its count of faults never falls, and rose where the call failed. One that is sound fails none.
pub record Serves (was is : Type 0) (before now : ℕ) (failed : Type 0) : Type 0 where
  pub later : before ≤ now
  pub cause : failed → HasRisen before now
  pub works : was → failed → ⊥
  pub steady : was → now ≡ before
  pub still : was → is

-- A keeper failed in a call: its count of faults rose, and it isn't sound.
pub record HasFailed (sound : Type 0) (before now : ℕ) : Type 0 where
  pub rose : HasRisen before now
  pub unsound : sound → ⊥

-- Whatever became of a call: the count never falls, and that of a sound keeper stays, which is sound from then on.
pub record GoesOn (was is : Type 0) (before now : ℕ) : Type 0 where
  pub later : before ≤ now
  pub steady : was → now ≡ before
  pub still : was → is

-- why it failed, if it did
abbrev pub failure : {T : Type 0} → Result T KeepErr → Option KeepErr
failure (Ok t) = None
failure (Err e) = Some e

-- It is ready for each record that may stand next and has this key.
pub record IsReadyFor {R : Type 0} (ready : R → Record → Type 0) (recorder : R) (MayFollow : Record → Type 0) (key : Option (List ℕ)) : Type 0 where
  pub each : (r : Record) → MayFollow r → r.key ≡ key → ready recorder r

-- a keeper of records is, where none is in doubt and this one isn't longer than what it takes
pub record CanTake {K : Type 0} (c : Custody K) (r : Record) : Type 0 where
  pub ready : IsReady c
  pub short : length (spelling r) ≤ MOST_RECORD

-- What a keeper of records does to take a record.
pub record TakesRecord {K : Type 0} (kept : K → Option (List (List ℕ))) (sound : K → Type 0) (faults : K → ℕ) (old new : Custody K) (r : Record) (e : Option KeepErr) : Type 0 where
  pub appends : Appends (kept old.keeper) (kept new.keeper) new.doubt r e
  pub none_found : new.found ≡ None
  pub serves : Serves (sound old.keeper) (sound new.keeper) (faults old.keeper) (faults new.keeper) (e ≡ Some Fault)

-- Of a call that puts a record: it was recorded, or failed to be; or memory was wanting before.
pub data IsRecorded {R : Type 0} (records : R → R → Record → Option KeepErr → Type 0) (r : Record) (old new : R) (e : Option KeepErr) : Type 0 where
  taken : records old new r e → IsRecorded records r old new e
  untaken : new ≡ old → e ≡ Some Memory → IsRecorded records r old new e

-- Of a call that answers over a list, and leaves this list behind it: none was recorded, since it leaves the same; or the record that
-- it leaves more, which may stand there, was, or failed to be; or memory was wanting before.
pub data Recorded {R : Type 0} (records : R → R → Record → Option KeepErr → Type 0) (MayFollow : Record → Type 0) (h after : List Record) (old new : R) (e : Option KeepErr) : Type 0 where
  nothing_put : after ≡ h → new ≡ old → e ≡ None → Recorded records MayFollow h after old new e
  one_put : (r : Record) → MayFollow r → after ≡ h ++ r ∷ [] → IsRecorded records r old new e → Recorded records MayFollow h after old new e
  wanting : new ≡ old → e ≡ Some Memory → Recorded records MayFollow h after old new e
