use Rattle.std.proofs.Common.{◌≡◌, ◌++◌, List, subst}
use Rattle.std.specs.Prelude.{OnOk}
use Rattle.qz_terms.specs.declared.record.Record.{Record}
use Rattle.qz_solo.specs.Marks.{marks_of}
use Rattle.qz_bulk.proofs.BulkLemmas.{first_part}
use Rattle.qz_bulk.proofs.bulk_school.marks_onto.Goals as goal

pub returns-clause-marks : goal.returns-clause-marks
returns-clause-marks c =
    subst (λ (h : List Record). OnOk c.marks_onto.result (c.marks_onto.new.marks ≡ c.args.marks.now ++ marks_of h c.args.attempt)) (first_part c.args.school.now c.args.attempt.user c.requires.one) c.marks_onto.ensures.marks
