use Rattle.std.proofs.Common.{map}
use Rattle.qz_terms.specs.Lists.{places_to}
use Rattle.qz_bulk.specs.Bulk.{finish_line, save_line, start_line}
use Rattle.qz_bulk.proofs.BulkLemmas.{three_parts}
use Rattle.qz_bulk.proofs.bulk_school.student_onto.Goals as goal

pub returns : goal.returns
returns c =
    rw (c.in_ok-added-2.ensures, c.in_ok-finish_line.ensures, c.in_ok-saves_onto.ensures, c.in_ok-added.ensures, c.in_ok-start_line.ensures)
    (three_parts c.args.lines.now (map (save_line c.args.student) (places_to 10)) (start_line c.args.student) (finish_line c.args.student))
