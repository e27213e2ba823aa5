use Rattle.std.proofs.Common.{◌≡◌, ◌+◌, length, flat_map, sum_by}
use Rattle.qz_record.proofs.lengths.behind_all.Given as goal

abbrev pub invariant-loop-rest : goal.invariant-loop-rest
invariant-loop-rest g l = l.room + sum_by length (flat_map g.W.Worded.texts l.rest) ≡ l.left + sum_by length (flat_map g.W.Worded.texts l.parts)

abbrev pub decreases-loop-rest : goal.decreases-loop-rest
decreases-loop-rest g l = length l.rest
