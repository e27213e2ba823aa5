use Rattle.qz_sqlite.proofs.part_list.alone.Goals as goal

pub returns-in-Ok-clause-alone : goal.returns-in-Ok-clause-alone
returns-in-Ok-clause-alone g c = rw c.new-shards.ensures.items at c.in-Ok.ensures.items
