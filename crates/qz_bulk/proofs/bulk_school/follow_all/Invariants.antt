use Rattle.std.proofs.Common.{◌≡◌, take}
use Rattle.std.specs.Prelude.{fold}
use Rattle.qz_bulk.specs.Bulk.{after_line}
use Rattle.qz_bulk.proofs.bulk_school.follow_all.Given as goal

abbrev pub invariant-loop-line : goal.invariant-loop-line
invariant-loop-line l = l.school ≡ fold after_line l.initial.school (take l.line-index l.lines)
