-- How a command ends that wants the school of a folder, and doesn't get it.
use Rattle.std.specs.Prelude.{◌≡◌, ℕ, List, ◌∷◌, [], ◌++◌, Option, Some, None, codes, decimal}
use Rattle.std.specs.Io.KnownBytes.{Appends, Keeps}
use Rattle.qz_disks.specs.Shelves.{NoneOutIn}
use Rattle.qz_ending.specs.declared.stop.Stop.{Stop}
use Rattle.qz_ending.specs.declared.stop.Stop.TheVariants as stop
use Rattle.qz_found.specs.FoundEndings.{Shelved, Sunk}
use Rattle.qz_loading.specs.declared.fault.LoadFault.{LoadFault}
use Rattle.qz_loading.specs.declared.fault.LoadFault.TheVariants as fault
use Rattle.qz_loading.specs.Places.{LeavesUnreached, ListsStay}
use Rattle.qz_loading.specs.Reading.{IsLoadFault}
use Rattle.qz_outside.specs.Causes.{HasRisen}
use Rattle.qz_outside.specs.Sources.{AppendsFront}

-- ---- what is said of it

abbrev pub damaged_line : List ℕ → ℕ → List ℕ
damaged_line name here = codes "damaged " ++ (name ++ (codes " " ++ (decimal here ++ 10 ∷ [])))

abbrev pub behind_line : ℕ → ℕ → ℕ → List ℕ
behind_line shard position end = codes "behind " ++ (decimal shard ++ (codes " " ++ (decimal position ++ (codes " " ++ (decimal end ++ 10 ∷ [])))))

abbrev pub altered_line : ℕ → ℕ → List ℕ
altered_line shard nth = codes "altered " ++ (decimal shard ++ (codes " " ++ (decimal nth ++ 10 ∷ [])))

abbrev pub not_founded_line : List ℕ
not_founded_line = codes "not founded" ++ 10 ∷ []

-- a shelf that fails and want of memory are no refusals
abbrev pub refusal_of : LoadFault → Option (List ℕ)
refusal_of (fault.Damaged name here) = Some (damaged_line name here)
refusal_of (fault.Behind shard position end) = Some (behind_line shard position end)
refusal_of (fault.Altered shard nth) = Some (altered_line shard nth)
refusal_of fault.NotFounded = Some not_founded_line
refusal_of fault.Fault = None
refusal_of fault.Memory = None

-- ---- how it ends

-- The files don't give the school, for this cause: each is back, and stands for what it stood for, and those of the shards that weren't
-- reached are as they were.
pub record IsUnloaded (folder : List ℕ) (old new : Shelved) (cause : LoadFault) : Type 0 where
  pub why : IsLoadFault folder old.files cause
  pub none_out : NoneOutIn folder new.files
  pub stay : ListsStay folder old.files new.files
  pub unreached : LeavesUnreached folder old.files new.files cause

-- the files say why, and that was written
pub record LoadRefused (folder : List ℕ) (old new : Shelved) (before now : Sunk) : Type 0 where
  pub cause : LoadFault
  pub line : List ℕ
  pub unloaded : IsUnloaded folder old new cause
  pub said : refusal_of cause ≡ Some line
  pub written : Appends before.holds now.holds line

-- the sink failed under it, behind a front
pub record LoadUnsaid (folder : List ℕ) (old new : Shelved) (before now : Sunk) : Type 0 where
  pub cause : LoadFault
  pub line : List ℕ
  pub unloaded : IsUnloaded folder old new cause
  pub said : refusal_of cause ≡ Some line
  pub written : AppendsFront before.holds now.holds line
  pub risen : HasRisen before.faults now.faults

-- the shelf failed, or the disk of a file, and nothing was written
pub record LoadFailed (folder : List ℕ) (old new : Shelved) (before now : Sunk) : Type 0 where
  pub unloaded : IsUnloaded folder old new fault.Fault
  pub unwritten : Keeps before.holds now.holds
  pub risen : HasRisen old.faults new.faults

-- memory was wanting, for the school or for what is said of it, and nothing was written
pub record LoadShort (folder : List ℕ) (old new : Shelved) (before now : Sunk) : Type 0 where
  pub cause : LoadFault
  pub unloaded : IsUnloaded folder old new cause
  pub unwritten : Keeps before.holds now.holds

abbrev pub UnloadedBy : List ℕ → Shelved → Shelved → Sunk → Sunk → Stop → Type 0
UnloadedBy folder old new before now stop.SinkFault = LoadUnsaid folder old new before now
UnloadedBy folder old new before now stop.ShelfFault = LoadFailed folder old new before now
UnloadedBy folder old new before now stop.Refused = LoadRefused folder old new before now
UnloadedBy folder old new before now stop.Memory = LoadShort folder old new before now
UnloadedBy folder old new before now s = ⊥

-- ---- what a command does then

-- a line is written, and the stop is a refusal; or the sink failed under it
abbrev pub Refuses : List ℕ → Option (List ℕ) → Option (List ℕ) → ℕ → ℕ → Stop → Type 0
Refuses line old new before now stop.Refused = Appends old new line
Refuses line old new before now stop.SinkFault = AppendsFront old new line × HasRisen before now
Refuses line old new before now s = ⊥

-- a shelf that fails and want of memory end it without a line
abbrev pub stop_of : LoadFault → Stop
stop_of (fault.Damaged name here) = stop.Refused
stop_of (fault.Behind shard position end) = stop.Refused
stop_of (fault.Altered shard nth) = stop.Refused
stop_of fault.NotFounded = stop.Refused
stop_of fault.Fault = stop.ShelfFault
stop_of fault.Memory = stop.Memory

-- the cause has this line, which was written
pub record SaysCause (cause : LoadFault) (before now : Sunk) : Type 0 where
  pub line : List ℕ
  pub said : refusal_of cause ≡ Some line
  pub written : Appends before.holds now.holds line

-- the sink failed under it, behind a front
pub record LeavesUnsaid (cause : LoadFault) (before now : Sunk) : Type 0 where
  pub line : List ℕ
  pub said : refusal_of cause ≡ Some line
  pub written : AppendsFront before.holds now.holds line
  pub risen : HasRisen before.faults now.faults

-- the cause is told by its line, if it has one, unless memory was wanting for that
abbrev pub Tells : LoadFault → Sunk → Sunk → Stop → Type 0
Tells cause before now stop.Refused = SaysCause cause before now
Tells cause before now stop.SinkFault = LeavesUnsaid cause before now
Tells cause before now stop.ShelfFault = (cause ≡ fault.Fault) × Keeps before.holds now.holds
Tells cause before now stop.Memory = Keeps before.holds now.holds
Tells cause before now s = ⊥
