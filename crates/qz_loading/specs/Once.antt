-- That of files just one cause is told why a school isn't loaded.
use Rattle.std.specs.Prelude.{◌≡◌, ℕ, List, true, is_some}
use Rattle.qz_disks.specs.Shelves.{Files, place}
use Rattle.qz_loading.specs.declared.fault.LoadFault.{LoadFault}
use Rattle.qz_loading.specs.declared.fault.LoadFault.TheVariants.{Damaged, Behind, Altered, NotFounded, Fault, Memory}
use Rattle.qz_loading.specs.Reading.{IsLoadFault}

-- a cause that lies in the files
abbrev pub IsOfFiles : LoadFault → Type 0
IsOfFiles (Damaged name here) = Unit {0}
IsOfFiles (Behind shard position end) = Unit {0}
IsOfFiles (Altered shard nth) = Unit {0}
IsOfFiles NotFounded = Unit {0}
IsOfFiles Fault = ⊥
IsOfFiles Memory = ⊥

-- each file of a folder tells what it reads as
pub record AreTold (folder : List ℕ) (files : Files) : Type 0 where
  pub each : (name : List ℕ) → is_some (files.file (place folder name)).reads ≡ true

-- two causes that lie in them are one
pub record IsToldOnce (folder : List ℕ) (files : Files) : Type 0 where
  pub each : (a b : LoadFault) → IsOfFiles a → IsOfFiles b → IsLoadFault folder files a → IsLoadFault folder files b → a ≡ b
