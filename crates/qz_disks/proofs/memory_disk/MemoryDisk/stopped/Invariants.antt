use Rattle.std.proofs.Common.{◌≡◌, [], length, drop}
use Rattle.qz_disks.specs.Log.{told, total}
use Rattle.qz_disks.specs.Stops.{left_by}
use Rattle.qz_disks.proofs.memory_disk.MemoryDisk.stopped.Given as goal

abbrev pub invariant-loop-done : goal.invariant-loop-done
invariant-loop-done l = record {
  same : left_by l.fill (told l.pieces (drop l.done-index l.done-items)) l.reads.items l.left.items ≡ left_by l.fill (told l.initial.pieces l.done-items) [] [];
  whole : total (drop l.done-index l.done-items) ≡ length l.pieces;
}
