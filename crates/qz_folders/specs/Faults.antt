-- What a fault below is told as.
use Rattle.qz_disks.specs.declared.keeper.KeepErr.{KeepErr}
use Rattle.qz_disks.specs.declared.keeper.KeepErr.TheVariants as keep
use Rattle.qz_disks.specs.declared.shelf.ShelfErr.{ShelfErr}
use Rattle.qz_disks.specs.declared.shelf.ShelfErr.TheVariants as shelf
use Rattle.qz_journal.specs.declared.fault.JournalFault.{JournalFault}
use Rattle.qz_journal.specs.declared.fault.JournalFault.TheVariants as journal
use Rattle.qz_folders.specs.declared.fault.FoundFault.{FoundFault}
use Rattle.qz_folders.specs.declared.fault.FoundFault.TheVariants as found
use Rattle.qz_folders.specs.declared.fault.OpenFault.{OpenFault}
use Rattle.qz_folders.specs.declared.fault.OpenFault.TheVariants as opened

abbrev pub of_shelf : ShelfErr → OpenFault
of_shelf shelf.Failed = opened.Fault
of_shelf shelf.Memory = opened.Memory

abbrev pub of_journal : JournalFault → OpenFault
of_journal journal.Fault = opened.Fault
of_journal (journal.Damaged place) = opened.Damaged place
of_journal journal.Memory = opened.Memory

abbrev pub found_fault_of : OpenFault → FoundFault
found_fault_of (opened.Damaged place) = found.Damaged place
found_fault_of opened.Fault = found.Fault
found_fault_of opened.Memory = found.Memory

abbrev pub kept_fault_of : KeepErr → FoundFault
kept_fault_of keep.Fault = found.Fault
kept_fault_of keep.Memory = found.Memory
