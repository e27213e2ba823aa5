use Rattle.std.proofs.Common.{◌≡◌, ◌-◌, ◌<◌, ◌≤◌, IfSome}
use Rattle.qz_disks.specs.Disks.{Same, Elapses, Spends}
use Rattle.qz_disks.specs.Sound.{StaysSound}
use Rattle.qz_journal.proofs.Steps.{SoFar}
use Rattle.qz_journal.proofs.reading.read_frames.Given as goal

abbrev pub invariant-loop-payloads : goal.invariant-loop-payloads
invariant-loop-payloads g l = record {
  reads : g.D.Disk.reads l.disk ≡ g.D.Disk.reads l.fn.disk;
  crash : Elapses Same (g.D.Disk.moment l.fn.disk) (g.D.Disk.moment l.disk) (g.D.Disk.left_at l.fn.disk) (g.D.Disk.left_at l.disk);
  room : Spends 0 0 (g.D.Disk.room l.fn.disk) (g.D.Disk.room l.disk);
  blamed : g.D.Disk.blamed l.disk ≡ g.D.Disk.blamed l.fn.disk;
  later : g.D.Disk.faults l.fn.disk ≤ g.D.Disk.faults l.disk;
  sound : StaysSound (g.D.Disk.sound l.fn.disk) (g.D.Disk.sound l.disk) (g.D.Disk.faults l.fn.disk) (g.D.Disk.faults l.disk) ⊥;
  inside : l.gate < l.size;
  so_far : IfSome (g.D.Disk.reads l.fn.disk) (SoFar l.gate l.payloads.items);
}

abbrev pub decreases-loop-payloads : goal.decreases-loop-payloads
decreases-loop-payloads g l = l.size - l.gate
