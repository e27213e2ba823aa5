use Rattle.qz_visit.specs.Visits.{seen_by}
use Rattle.qz_visit.proofs.Counting.{LeftTo}
use Rattle.qz_visit.proofs.passes.count_parts.Given as goal

abbrev pub invariant-loop-index : goal.invariant-loop-index
invariant-loop-index g l = LeftTo l.own l.list (seen_by l.parts.items) l.counts-inside.items.items l.index
