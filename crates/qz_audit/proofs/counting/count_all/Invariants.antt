use Rattle.std.proofs.Common.{◌≡◌, ◌+◌, ◌*◌, ◌≤◌, length, sum_by, take}
use Rattle.qz_audit.proofs.counting.count_all.Given as goal

abbrev pub invariant-loop-index : goal.invariant-loop-index
invariant-loop-index g l = (l.count ≡ l.first + sum_by (λ s. length s.held.list) (take l.index l.shards.items)) × (l.count ≤ (l.index + 1) * 18446744073709551615)
