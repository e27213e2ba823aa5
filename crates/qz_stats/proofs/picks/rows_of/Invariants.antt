use Rattle.std.proofs.Common.{◌≡◌, ◌++◌, map}
use Rattle.qz_stats.specs.Counts.{told_of}
use Rattle.qz_stats.proofs.picks.rows_of.Given as goal

abbrev pub invariant-loop-pick : goal.invariant-loop-pick
invariant-loop-pick l = l.items.items ++ map told_of l.pick-iterator ≡ map told_of l.counts.entries
