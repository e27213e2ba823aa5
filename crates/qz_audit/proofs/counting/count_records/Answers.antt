use Rattle.std.proofs.Common.{◌≡◌, ◌+◌, length, sum_by, ◌∙◌}
use Rattle.qz_audit.proofs.Records.{counted_in}
use Rattle.qz_audit.proofs.counting.count_records.Goals as goal

pub returns-clause-count : goal.returns-clause-count
returns-clause-count g c =
    let whole = counted_in c.args.solo in
    let of = c.into_parts-catalog.ensures in
    rw (← whole, ← of.catalog, ← of.shards, ← c.len.ensures.count) c.count_all-count.ensures
