use Rattle.std.proofs.Common.{◌≡◌, ◌≤◌, map, take}
use Rattle.std.specs.Prelude.{fold, max}
use Rattle.qz_terms.specs.History.{slot_count}
use Rattle.qz_stats.proofs.slots.widest.Given as goal

abbrev pub invariant-loop-attempt : goal.invariant-loop-attempt
invariant-loop-attempt l = (l.most ≡ fold max l.least (map (slot_count l.shard.book) (take l.attempt-index l.attempt-items))) × (l.most ≤ 200)
