use Rattle.qz_bulk.proofs.BulkLemmas.{regraded_one}
use Rattle.qz_bulk.proofs.bulk_school.regrade.Goals as goal

pub returns-clause-one : goal.returns-clause-one
returns-clause-one c = regraded_one c.follow_all.result c.args.school.now c.follow_all.new.school c.as_slice.result.now c.follow_all.ensures c.requires.one
