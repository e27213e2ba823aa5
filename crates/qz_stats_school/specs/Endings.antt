-- How the analysis of a quiz ends, as a command.
use Rattle.std.specs.Prelude.{◌≡◌, ◌⊎◌, ℕ, List, Option, Some, None, Result, Ok, Err, String, string_bytes}
use Rattle.std.specs.Io.KnownBytes.{Appends, Keeps}
use Rattle.qz_ending.specs.declared.stop.Stop.{Stop}
use Rattle.qz_ending.specs.declared.stop.Stop.TheVariants as stop
use Rattle.qz_found.specs.FoundEndings.{Shelved, Sunk}
use Rattle.qz_journal.specs.Journals.{Ledger}
use Rattle.qz_loading.specs.Opening.{lists_of}
use Rattle.qz_outside.specs.Causes.{HasRisen}
use Rattle.qz_outside.specs.Sources.{AppendsFront}
use Rattle.qz_school.specs.Solos.{School}
use Rattle.qz_script_schools.specs.Folders.{Disks, FolderEnds}
use Rattle.qz_stats_school.specs.Lines.{stats_text}

-- A text is written whole; or a front of it, where the sink failed; or nothing, where memory was wanting.
abbrev pub IsWritten : List ℕ → Sunk → Sunk → Option Stop → Type 0
IsWritten text before now None = Appends before.holds now.holds text
IsWritten text before now (Some stop.SinkFault) = AppendsFront before.holds now.holds text × HasRisen before.faults now.faults
IsWritten text before now (Some stop.Memory) = Keeps before.holds now.holds
IsWritten text before now (Some s) = ⊥

-- a text that memory was there for, or none
abbrev pub IsSaid : {Z E : Type 0} → Result (String Z) E → Sunk → Sunk → Option Stop → Type 0
IsSaid (Ok text) before now s = IsWritten (string_bytes text) before now s
IsSaid (Err e) before now s = (s ≡ Some stop.Memory) × Keeps before.holds now.holds

-- The school stays, and this is written of its lists.
pub record Analysed {D : Type 0} (quiz : ℕ) (before now : Sunk) (s : Option Stop) (a b : School (Ledger D)) : Type 0 where
  pub same : b ≡ a
  pub written : IsWritten (stats_text (lists_of a.parts) quiz) before now s

-- the school of a folder was analysed, or the files don't give one
abbrev pub StatsEnds : {D : Type 0} → Disks D → List ℕ → ℕ → Shelved → Shelved → Sunk → Sunk → Option Stop → Type 0
StatsEnds disks folder quiz old new before now s =
    FolderEnds disks folder (λ a b t. Analysed quiz before now t a b) (Unit {0}) old new before now s

-- Where neither the sink's count rose nor the shelf's, all is written, or the files don't give a school, or memory was wanting.
pub record SaysAll (old new : Shelved) (before now : Sunk) (status : ℕ) : Type 0 where
  pub done : ¬ HasRisen before.faults now.faults → ¬ HasRisen old.faults new.faults → (status ≡ 0) ⊎ ((status ≡ 7) ⊎ (status ≡ 8))
