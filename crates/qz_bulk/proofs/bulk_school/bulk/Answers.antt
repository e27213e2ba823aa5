use Rattle.qz_bulk.proofs.BulkLemmas.{bulk_ends}
use Rattle.qz_bulk.proofs.bulk_school.bulk.Goals as goal

pub returns-in-Err-clause-complete : goal.returns-in-Err-clause-complete
returns-in-Err-clause-complete g c = λ quiet. rw c.status.ensures (bulk_ends c.args.count _ _ _ _ c.in-Err.stop c.in-Err.ensures quiet)
