-- What is told of a database whose list isn't read.
use Rattle.std.specs.Prelude.{◌≡◌, ℕ, List}
use Rattle.qz_disks.specs.declared.keeper.KeepErr.{KeepErr}
use Rattle.qz_disks.specs.declared.keeper.KeepErr.TheVariants as keep
use Rattle.qz_disks.specs.declared.shelf.ShelfErr.{ShelfErr}
use Rattle.qz_disks.specs.declared.shelf.ShelfErr.TheVariants as shelf
use Rattle.qz_loading.specs.declared.fault.LoadFault.{LoadFault}
use Rattle.qz_loading.specs.declared.fault.LoadFault.TheVariants.{Fault, Memory}
use Rattle.qz_loading.specs.Telling.{TellsDamageOf}
use Rattle.qz_record.specs.declared.list_fault.ListFault.{ListFault}
use Rattle.qz_record.specs.declared.list_fault.ListFault.TheVariants as list

-- that it is damaged at the place of a record, from 1
abbrev pub TellsIllegal : List ℕ → ListFault → LoadFault → Type 0
TellsIllegal name (list.Illegal nth) told = TellsDamageOf name nth told
TellsIllegal name list.Memory told = told ≡ Memory

-- what is told where a keeper didn't take the founding
abbrev pub kept_fault_of : KeepErr → LoadFault
kept_fault_of keep.Fault = Fault
kept_fault_of keep.Memory = Memory

-- what is told where bases don't hand a database out
abbrev pub shelf_fault_of : ShelfErr → LoadFault
shelf_fault_of shelf.Failed = Fault
shelf_fault_of shelf.Memory = Memory
