use Rattle.std.proofs.Common.{◌∙◌, ap, arith}
use Rattle.qz_disks.specs.Log.{told}
use Rattle.qz_disks.proofs.Logged.{told_synced, logged_synced, capacity_less, now_synced, now_durable}
use Rattle.qz_disks.proofs.memory_disk.MemoryDiskDisk.sync.Goals as goal

pub invariant_of-self-2 : goal.invariant_of-self-2
invariant_of-self-2 c =
    let s = c.self.inside in (
      rw c.push_reserved.ensures.items (logged_synced s.bytes.items s.written.items s.log.items c.self.invariant.0),
      rw c.push_reserved.ensures.capacity (capacity_less s.calls_left s.bytes_left _ _ _ _ _ _ _ _ c.self.invariant.1 (rw (← c.self.view_is) at c.requires.room.calls_fit) (omega arith) c.push_reserved.ensures.len),
    )

pub returns-clause-durable : goal.returns-clause-durable
returns-clause-durable c =
    let s = c.self.inside in
    let later = ap (told s.written.items) c.push_reserved.ensures.items ∙ told_synced s.log.items s.written.items in
    rw (← c.self.view_is) (now_durable _ _ later)

pub returns-clause-reads : goal.returns-clause-reads
returns-clause-reads c =
    let s = c.self.inside in
    let later = ap (told s.written.items) c.push_reserved.ensures.items ∙ told_synced s.log.items s.written.items in
    rw (← c.self.view_is) (now_synced _ _ later).1

pub returns-clause-crash : goal.returns-clause-crash
returns-clause-crash c =
    let s = c.self.inside in
    let later = ap (told s.written.items) c.push_reserved.ensures.items ∙ told_synced s.log.items s.written.items in
    rw (← c.self.view_is) (now_synced _ _ later).0
