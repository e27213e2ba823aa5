use Rattle.std.proofs.Common.{◌≡◌, ◌++◌, take}
use Rattle.qz_solo.proofs.report.added.Given as goal

abbrev pub invariant-loop-row : goal.invariant-loop-row
invariant-loop-row l = l.all-inside.items.items ≡ l.fn.all ++ take l.row-index l.rows
