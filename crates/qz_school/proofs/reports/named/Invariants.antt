use Rattle.std.proofs.Common.{◌≡◌, ◌++◌, map}
use Rattle.qz_school.specs.Reports.{named_row}
use Rattle.qz_school.proofs.reports.named.Given as goal

abbrev pub invariant-loop-user : goal.invariant-loop-user
invariant-loop-user l = l.items.items ++ map (named_row l.names) l.user-iterator ≡ map (named_row l.names) l.grades.entries
