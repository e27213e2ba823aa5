use Rattle.qz_sqlite.proofs.Lists.{only-part, part-disagrees, part-in}
use Rattle.qz_sqlite.proofs.part_list.read_shards.Goals as goal

pub returns-in-Ok-clause-read : goal.returns-in-Ok-clause-read
returns-in-Ok-clause-read g c = only-part (λ v. v.items) c.args.catalog.now c.args.payloads.now c.args.keeper c.in_ok-shard.shard c.alone.result c.in_ok-shard.ensures.opened (rw c.records.ensures at c.in-Ok.ensures.agree) c.alone.ensures.alone

pub returns-in-Err-clause-refused : goal.returns-in-Err-clause-refused
returns-in-Err-clause-refused g c =
    part-disagrees c.args.catalog.now c.args.payloads.now c.in_ok-shard.shard.held.list c.in-Err.fault
    (part-in c.args.payloads.now c.args.keeper c.in_ok-shard.shard c.in_ok-shard.ensures.opened) (rw c.records.ensures at c.in-Err.ensures.why)
