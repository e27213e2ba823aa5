use Rattle.std.proofs.Common.{◌≡◌, ◌+◌, ◌-◌, ◌≤◌, length, min, vec_len}
use Rattle.qz_outside.specs.Sources.{ReadsOn}
use Rattle.qz_outside.proofs.read.read_all.Given as goal

abbrev pub invariant-loop-items : goal.invariant-loop-items
invariant-loop-items g l = record {
  reads : ReadsOn (g.S.Source.left l.fn.source) (g.S.Source.left l.source) (g.S.Source.faults l.fn.source) (g.S.Source.faults l.source) l.items.items;
  within : length l.items.items ≤ l.limit + 1;
  room : vec_len l.chunk ≡ min 65536 (l.limit + 1);
}

abbrev pub decreases-loop-items : goal.decreases-loop-items
decreases-loop-items g l = l.limit + 1 - vec_len l.items
