use Rattle.std.proofs.Common.{◌≡◌, ◌++◌, string_bytes, take}
use Rattle.qz_pages.specs.Reports.{grades_text}
use Rattle.qz_pages.proofs.reports.rows_onto.Given as goal

abbrev pub invariant-loop-row : goal.invariant-loop-row
invariant-loop-row l = string_bytes l.out ≡ string_bytes l.initial.out ++ grades_text (take l.row-index l.rows)
