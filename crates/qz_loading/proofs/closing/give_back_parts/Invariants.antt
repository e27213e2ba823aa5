use Rattle.std.proofs.Common.{length}
use Rattle.qz_disks.specs.Sound.{StaysSound}
use Rattle.qz_loading.specs.Opening.{AreSound}
use Rattle.qz_loading.proofs.GivingBack.{IsGivingBack}
use Rattle.qz_loading.proofs.closing.give_back_parts.Given as goal

abbrev pub invariant-loop-shard : goal.invariant-loop-shard
invariant-loop-shard g l = record {
  giving : IsGivingBack g.F.Disk.Disk.faults l.folder l.fn.shards.items l.rest.items (g.F.Shelf.files l.fn.shelf) (g.F.Shelf.files l.shelf) (g.F.Shelf.faults l.fn.shelf) (g.F.Shelf.faults l.shelf);
  sound : AreSound g.F.Disk.Disk.sound g.F.Disk.Disk.faults l.fn.shards.items → StaysSound (g.F.Shelf.sound l.fn.shelf) (g.F.Shelf.sound l.shelf) (g.F.Shelf.faults l.fn.shelf) (g.F.Shelf.faults l.shelf) ⊥;
}

abbrev pub decreases-loop-shard : goal.decreases-loop-shard
decreases-loop-shard g l = length l.rest.items
