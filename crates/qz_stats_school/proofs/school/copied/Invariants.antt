use Rattle.std.proofs.Common.{◌≡◌, take}
use Rattle.qz_stats_school.proofs.school.copied.Given as goal

abbrev pub invariant-loop-made : goal.invariant-loop-made
invariant-loop-made l = l.items.items ≡ take l.made-index l.records
