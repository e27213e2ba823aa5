use Rattle.qz_sqlite.proofs.Lists.{more-refused}
use Rattle.qz_sqlite.proofs.catalog_list.read_founded.Goals as goal

pub returns-in-Ok-clause-refused : goal.returns-in-Ok-clause-refused
returns-in-Ok-clause-refused g c = more-refused c.args.payloads.now c.in-Ok.catalog.held.list c.of_one_shard.result c.in-Ok.ensures.opened.loaded c.of_one_shard.ensures.other c.of_one_shard.ensures.told
