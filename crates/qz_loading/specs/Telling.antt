-- What is told of the file of a list that isn't opened or read.
use Rattle.std.specs.Prelude.{◌≡◌, ℕ, ◌≤◌, List, length}
use Rattle.qz_folders.specs.declared.fault.OpenFault.{OpenFault}
use Rattle.qz_folders.specs.declared.fault.OpenFault.TheVariants as opened
use Rattle.qz_folders.specs.Names.{catalog_name, part_name}
use Rattle.qz_loading.specs.declared.fault.LoadFault.{LoadFault}
use Rattle.qz_loading.specs.declared.fault.LoadFault.TheVariants.{Damaged, Behind, Altered, NotFounded, Fault, Memory}
use Rattle.qz_loading.specs.declared.names.ListFile.{ListFile}
use Rattle.qz_loading.specs.declared.names.ListFile.TheVariants.{Catalog, Part}
use Rattle.qz_loading.specs.Reading.{gate_of}
use Rattle.qz_record.specs.declared.list_fault.ListFault.{ListFault}
use Rattle.qz_record.specs.declared.list_fault.ListFault.TheVariants as list

abbrev pub name_of : ListFile → List ℕ
name_of Catalog = catalog_name
name_of (Part index) = part_name index

-- that a file is damaged, with its name and the place, or that memory was wanting
abbrev pub TellsDamageOf : List ℕ → ℕ → LoadFault → Type 0
TellsDamageOf name here (Damaged n h) = (n ≡ name) × (h ≡ here)
TellsDamageOf name here (Behind shard position end) = ⊥
TellsDamageOf name here (Altered shard nth) = ⊥
TellsDamageOf name here NotFounded = ⊥
TellsDamageOf name here Fault = ⊥
TellsDamageOf name here Memory = Unit {0}

abbrev pub TellsUnopened : List ℕ → OpenFault → LoadFault → Type 0
TellsUnopened name (opened.Damaged here) told = TellsDamageOf name here told
TellsUnopened name opened.Fault told = told ≡ Fault
TellsUnopened name opened.Memory told = told ≡ Memory

-- one of the payloads is told of
abbrev pub IsWithin : List (List ℕ) → ListFault → Type 0
IsWithin payloads (list.Illegal nth) = (1 ≤ nth) × (nth ≤ length payloads)
IsWithin payloads list.Memory = Unit {0}

abbrev pub TellsUnread : List ℕ → List (List ℕ) → ListFault → LoadFault → Type 0
TellsUnread name payloads (list.Illegal nth) told = TellsDamageOf name (gate_of payloads nth) told
TellsUnread name payloads list.Memory told = told ≡ Memory
