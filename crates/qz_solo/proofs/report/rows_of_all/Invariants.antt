use Rattle.std.proofs.Common.{◌≡◌, take}
use Rattle.qz_terms.specs.Serial.{lists_of}
use Rattle.qz_school.specs.Reports.{PartsRead, all_rows}
use Rattle.qz_school.specs.Solos.{held_of}
use Rattle.qz_solo.proofs.report.rows_of_all.Given as goal

abbrev pub ghosts-rows : goal.ghosts-rows
ghosts-rows g a = record { name = a.blank.name; parts = a.blank.parts }

abbrev pub invariant-loop-index : goal.invariant-loop-index
invariant-loop-index g l = PartsRead g.K.Keeper.sound g.K.Keeper.faults l.index l.initial.shards.items l.shards.items × (l.all ≡ all_rows (lists_of (held_of (take l.index l.shards.items))) l.quiz l.policy)
