use Rattle.std.proofs.Common.{◌≡◌, ◌++◌}
use Rattle.std.specs.Prelude.{replicate}
use Rattle.qz_bulk.specs.Bulk.{work_line}
use Rattle.qz_bulk.proofs.bulk_school.works_onto.Given as goal

abbrev pub invariant-loop-step : goal.invariant-loop-step
invariant-loop-step l = l.lines ≡ l.initial.lines ++ replicate l.step work_line
