use Rattle.std.proofs.Common.{◌∙◌, ap, arith}
use Rattle.qz_disks.specs.Log.{told}
use Rattle.qz_disks.proofs.Logged.{told_cut, logged_cut, capacity_less, now_cut}
use Rattle.qz_disks.proofs.memory_disk.MemoryDiskDisk.cut.Goals as goal

pub invariant_of-self-2 : goal.invariant_of-self-2
invariant_of-self-2 c =
    let s = c.self.inside in (
      rw (c.truncate.ensures.items, c.push_reserved.ensures.items) (logged_cut s.bytes.items s.written.items s.log.items c.args.size c.self.invariant.0),
      rw (c.truncate.ensures.capacity, c.push_reserved.ensures.capacity) (capacity_less s.calls_left s.bytes_left _ _ _ _ _ _ _ _ c.self.invariant.1 (rw (← c.self.view_is) at c.requires.room.calls_fit) (omega (arith, c.truncate.ensures.len)) c.push_reserved.ensures.len),
    )

pub returns-clause-written : goal.returns-clause-written
returns-clause-written c =
    let s = c.self.inside in
    let later = ap (told s.written.items) c.push_reserved.ensures.items ∙ told_cut s.log.items s.written.items c.args.size in
    rw (← c.self.view_is) (now_cut _ _ c.args.size later).1

pub returns-clause-crash : goal.returns-clause-crash
returns-clause-crash c =
    let s = c.self.inside in
    let later = ap (told s.written.items) c.push_reserved.ensures.items ∙ told_cut s.log.items s.written.items c.args.size in
    rw (← c.self.view_is) (now_cut _ _ c.args.size later).0
