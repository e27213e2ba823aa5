use Rattle.std.proofs.Common.{◌≡◌, List}
use Rattle.qz_turn.specs.declared.view.Tale.{Tale}
use Rattle.qz_terms.specs.declared.record.Record.{Record}
use Rattle.qz_school.specs.Reports.{all_rows}
use Rattle.qz_visit.specs.Reports.{AreAt, PartsRead}
use Rattle.qz_visit.proofs.Reporting.{first_lists}
use Rattle.qz_visit.proofs.reports.rows_of_all.Given as goal

abbrev pub invariant-loop-index : goal.invariant-loop-index
invariant-loop-index g l = ((found : List (Tale Record)) × PartsRead l.index l.initial.passes.items l.passes.items found) × AreAt l.parts.items l.passes.items × (l.all-inside.items.items ≡ all_rows (first_lists l.index l.passes.items) l.quiz l.policy)
