use Rattle.std.proofs.Common.{rules, ◌≡◌}
use Rattle.qz_bulk.specs.Bulk.{school_of}
use Rattle.qz_bulk.proofs.BulkLemmas.{one_shard_of}
use Rattle.qz_bulk.proofs.bulk_school.school_of.Goals as goal

pub returns-clause-one : goal.returns-clause-one
returns-clause-one c =
    let same : c.follow_all.new.school ≡ school_of c.args.count = search rules in
    one_shard_of c.follow_all.new.school c.args.count same
