use Rattle.std.proofs.Common.{◌≤◌}
use Rattle.std.specs.Prelude.{vec_capacity}
use Rattle.qz_disks.specs.Sound.{StaysSound}
use Rattle.qz_loading.specs.Opening.{AreSoundOut, ShardsAgree}
use Rattle.qz_loading.proofs.OpeningParts.{IsOpening}
use Rattle.qz_loading.proofs.parts.open_into.Given as goal

abbrev pub invariant-loop-index : goal.invariant-loop-index
invariant-loop-index g l = record {
  opening : IsOpening g.F.Disk.Disk.moment g.F.Disk.Disk.left_at l.folder (g.F.Shelf.files l.fn.shelf) (g.F.Shelf.files l.shelf) l.count l.index l.shards.items;
  agree : ShardsAgree l.catalog l.shards.items;
  later : g.F.Shelf.faults l.fn.shelf ≤ g.F.Shelf.faults l.shelf;
  sound : g.F.Shelf.sound l.fn.shelf → AreSoundOut g.F.Disk.Disk.sound g.F.Disk.Disk.faults l.folder (g.F.Shelf.files l.fn.shelf) l.shards.items;
  stays : StaysSound (g.F.Shelf.sound l.fn.shelf) (g.F.Shelf.sound l.shelf) (g.F.Shelf.faults l.fn.shelf) (g.F.Shelf.faults l.shelf) ⊥;
  room : l.count ≤ vec_capacity l.shards;
}
