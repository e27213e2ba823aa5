use Rattle.qz_sqlite.proofs.Lists.{read-from, read-solo, refused-first}
use Rattle.qz_sqlite.proofs.reading.read_school.Goals as goal

pub of-requires : goal.of-requires
of-requires g c = read-solo c.args.part.now c.args.keepers.part c.in-Ok.catalog c.in-Ok-read_shards.shards.items c.in-Ok.ensures.one (rw c.core.ensures at c.in-Ok-read_shards.ensures.read)

pub returns-in-Ok-read_shards-clause-read : goal.returns-in-Ok-read_shards-clause-read
returns-in-Ok-read_shards-clause-read g c =
    rw c.of.ensures
    (read-from (record { kept = g.K.Keeper.kept; doubt = g.K.Keeper.doubt }) c.args.token.now c.args.catalog c.args.part.now c.args.keepers.catalog c.args.keepers.part c.in-Ok.catalog c.in-Ok-read_shards.shards.items c.in-Ok.ensures.read c.in-Ok.ensures.one (rw c.core.ensures at c.in-Ok-read_shards.ensures.read))

pub returns-in-Err-clause-refused : goal.returns-in-Err-clause-refused
returns-in-Err-clause-refused g c = refused-first _ c.args.part.now c.in-Err.fault c.in-Err.ensures.refused
