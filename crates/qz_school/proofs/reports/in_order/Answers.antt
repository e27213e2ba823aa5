use Rattle.qz_school.proofs.Rows.{last_of_rest, put_more}
use Rattle.qz_school.proofs.reports.in_order.Goals as goal

pub loop-rest-preserved : goal.loop-rest-preserved
loop-rest-preserved c =
    put_more c.args.rows.now c.loop-rest.rest.now _ c.loop-rest.found.entries c.insert.new.self.entries c.row-item.result c.loop-rest.invariant
    (last_of_rest c.loop-rest.rest.now c.row-item.result c.in-len1-up.len_at_least c.row-item.is) c.in_ok-insert.ensures.entries
