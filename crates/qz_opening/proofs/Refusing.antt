-- A command that says why a school isn't loaded.
use Rattle.std.proofs.Common.{◌≡◌, ◌⊎◌, inl, inr, List, ℕ, None, Some, refl, subst}
use Rattle.std.proofs.KnownBytes.{Keeps-refl}
use Rattle.qz_ending.specs.declared.stop.Stop.{Stop}
use Rattle.qz_ending.specs.declared.stop.Stop.TheVariants as stop
use Rattle.qz_found.specs.FoundEndings.{Shelved, Sunk}
use Rattle.qz_loading.specs.declared.fault.LoadFault.{LoadFault}
use Rattle.qz_loading.specs.declared.fault.LoadFault.TheVariants as fault
use Rattle.qz_outside.specs.Causes.{HasRisen}
use Rattle.qz_opening.specs.Unloaded.{IsUnloaded, Refuses, Tells, UnloadedBy, refusal_of, stop_of}

-- a line that was found is written
pub tells_line : (cause : LoadFault) (line : List ℕ) (before now : Sunk) (s : Stop) → refusal_of cause ≡ Some line → Refuses line before.holds now.holds before.faults now.faults s → Tells cause before now s
tells_line cause line before now stop.Refused said written = record { line = line; said = said; written = written }
tells_line cause line before now stop.SinkFault said both = record { line = line; said = said; written = both.0; risen = both.1 }
tells_line cause line before now s said none = absurd none

-- a cause without a line ends it so
pub tells_none : (cause : LoadFault) (holds : Sunk) → refusal_of cause ≡ None → Tells cause holds holds (stop_of cause)
tells_none (fault.Damaged name here) holds none = absurd cc
tells_none (fault.Behind shard position end) holds none = absurd cc
tells_none (fault.Altered shard nth) holds none = absurd cc
tells_none fault.NotFounded holds none = absurd cc
tells_none fault.Fault holds none = (refl, Keeps-refl holds.holds)
tells_none fault.Memory holds none = Keeps-refl holds.holds

-- files that don't give a school, and what was told of them
pub unloaded_by : (folder : List ℕ) (old new : Shelved) (before now : Sunk) (cause : LoadFault) (s : Stop) → IsUnloaded folder old new cause → (cause ≡ fault.Fault → HasRisen old.faults new.faults) → Tells cause before now s → UnloadedBy folder old new before now s
unloaded_by folder old new before now cause stop.Refused unloaded rose told = record { cause = cause; line = told.line; unloaded = unloaded; said = told.said; written = told.written }
unloaded_by folder old new before now cause stop.SinkFault unloaded rose told = record { cause = cause; line = told.line; unloaded = unloaded; said = told.said; written = told.written; risen = told.risen }
unloaded_by folder old new before now cause stop.ShelfFault unloaded rose told = record { unloaded = subst (IsUnloaded folder old new) told.0 unloaded; unwritten = told.1; risen = rose told.0 }
unloaded_by folder old new before now cause stop.Memory unloaded rose told = record { cause = cause; unloaded = unloaded; unwritten = told }
unloaded_by folder old new before now cause s unloaded rose none = absurd none

-- a fault and want of memory have no line
no-line : {A : Type 0} (cause : LoadFault) (line : List ℕ) → (cause ≡ fault.Fault) ⊎ (cause ≡ fault.Memory) → refusal_of cause ≡ Some line → A
no-line cause line (inl is) said = let none : refusal_of fault.Fault ≡ Some line = subst (λ (f : LoadFault). refusal_of f ≡ Some line) is said in absurd cc
no-line cause line (inr is) said = let none : refusal_of fault.Memory ≡ Some line = subst (λ (f : LoadFault). refusal_of f ≡ Some line) is said in absurd cc

-- so no line was written of them
pub stops_unsaid : (cause : LoadFault) (before now : Sunk) (s : Stop) → (cause ≡ fault.Fault) ⊎ (cause ≡ fault.Memory) → Tells cause before now s → (s ≡ stop.ShelfFault) ⊎ (s ≡ stop.Memory)
stops_unsaid cause before now stop.Refused is told = no-line cause told.line is told.said
stops_unsaid cause before now stop.SinkFault is told = no-line cause told.line is told.said
stops_unsaid cause before now stop.ShelfFault is told = inl refl
stops_unsaid cause before now stop.Memory is told = inr refl
stops_unsaid cause before now s is none = absurd none
