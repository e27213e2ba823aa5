use Rattle.std.proofs.Common.{◌≡◌, ◌+◌, [], ◌∷◌, ◌++◌, length, vec_len, ap, arith, rules}
use Rattle.qz_disks.specs.Changes.{Wrote}
use Rattle.qz_disks.specs.Log.{told}
use Rattle.qz_disks.proofs.Pieces.{length-overwritten}
use Rattle.qz_disks.proofs.Logged.{told_wrote, logged_wrote, capacity_wrote, now_wrote, room_for_piece}
use Rattle.qz_disks.proofs.memory_disk.MemoryDiskDisk.write_at.Goals as goal

pub unwrap-requires : goal.unwrap-requires
unwrap-requires c =
    let s = c.self.inside in
    let size = ap length c.self.invariant.0.reads in
    let grows = rw (← c.self.view_is) at c.requires.room.bytes_fit in
    let some = rw (← c.self.view_is) at c.requires.room.calls_fit in
    let fits = room_for_piece s.calls_left (vec_len s.bytes + s.bytes_left) (length c.args.piece.now) some (omega (arith, s.bytes.ok.0)) in
    c.extend_from_slice.ensures.succeeds (omega (arith, fits, c.self.invariant.1.for_pieces))

pub invariant_of-self-2 : goal.invariant_of-self-2
invariant_of-self-2 c =
    let s = c.self.inside in
    let size = ap length c.self.invariant.0.reads in
    let grows = rw (← c.self.view_is) at c.requires.room.bytes_fit in
    let some = rw (← c.self.view_is) at c.requires.room.calls_fit in
    let place = rw (← c.self.view_is) at c.requires.place in
    let now : vec_len c.overwrite.new.bytes ≡ length (c.overwrite.new.bytes).items = search rules in
    let wider = length-overwritten c.args.at c.args.piece.now s.bytes.items (omega (arith, size)) in
    let after = ap length c.overwrite.ensures.items in
    let longer : vec_len c.extend_from_slice.new.self ≡ vec_len s.written + length c.args.piece.now = rw c.unwrap.ensures at c.extend_from_slice.ensures.len in (
      rw (c.overwrite.ensures.items, rw c.unwrap.ensures at c.extend_from_slice.ensures.items, c.push_reserved.ensures.items) (logged_wrote s.bytes.items s.written.items c.args.piece.now s.log.items c.args.at _ c.self.invariant.0 (search rules)),
      rw c.push_reserved.ensures.capacity (capacity_wrote s.calls_left s.bytes_left _ _ _ _ _ _ _ _ _ _ _ _ (length c.args.piece.now) c.self.invariant.1 some
          (omega (arith, s.bytes.ok.0))
          (omega (arith, s.bytes.ok.0))
          c.overwrite.ensures.capacity longer c.extend_from_slice.ensures.capacity c.push_reserved.ensures.len),
    )

pub returns-clause-written : goal.returns-clause-written
returns-clause-written c =
    let s = c.self.inside in
    let place = rw (← c.self.view_is) at c.requires.place in
    let pieces = rw c.unwrap.ensures at c.extend_from_slice.ensures.items in
    let later : told c.extend_from_slice.new.self.items c.push_reserved.new.self.items ≡ told s.written.items s.log.items ++ Wrote c.args.at c.args.piece.now ∷ [] = rw (pieces, c.push_reserved.ensures.items) (told_wrote s.log.items s.written.items c.args.piece.now c.args.at (length c.args.piece.now) c.self.invariant.0.whole (search rules)) in
    rw (← c.self.view_is) (now_wrote (told s.written.items s.log.items) (told c.extend_from_slice.new.self.items c.push_reserved.new.self.items) c.args.at c.args.piece.now later place).1

pub returns-clause-crash : goal.returns-clause-crash
returns-clause-crash c =
    let s = c.self.inside in
    let place = rw (← c.self.view_is) at c.requires.place in
    let pieces = rw c.unwrap.ensures at c.extend_from_slice.ensures.items in
    let later : told c.extend_from_slice.new.self.items c.push_reserved.new.self.items ≡ told s.written.items s.log.items ++ Wrote c.args.at c.args.piece.now ∷ [] = rw (pieces, c.push_reserved.ensures.items) (told_wrote s.log.items s.written.items c.args.piece.now c.args.at (length c.args.piece.now) c.self.invariant.0.whole (search rules)) in
    rw (← c.self.view_is) (now_wrote (told s.written.items s.log.items) (told c.extend_from_slice.new.self.items c.push_reserved.new.self.items) c.args.at c.args.piece.now later place).0
