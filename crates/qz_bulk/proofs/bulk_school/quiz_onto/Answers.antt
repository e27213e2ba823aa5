use Rattle.std.proofs.Common.{map, codes}
use Rattle.qz_terms.specs.Lists.{places_to}
use Rattle.qz_bulk.specs.Bulk.{import_line, slot_line}
use Rattle.qz_bulk.proofs.BulkLemmas.{four_parts}
use Rattle.qz_bulk.proofs.bulk_school.quiz_onto.Goals as goal

pub returns : goal.returns
returns c =
    rw (c.in_ok-added-3.ensures, c.in_ok-of-3.ensures, c.in_ok-slots_onto.ensures, c.in_ok-added-2.ensures, c.in_ok-of-2.ensures, c.in_ok-added.ensures, c.in_ok-of.ensures)
    (four_parts c.args.lines.now (map slot_line (places_to 10)) import_line (codes "1000 root quiz quiz Bulk deferredfeedback") (codes "1000 root ready ready 1"))
