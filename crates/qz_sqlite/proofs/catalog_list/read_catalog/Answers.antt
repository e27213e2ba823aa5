use Rattle.qz_sqlite.proofs.Lists.{refused-fault}
use Rattle.qz_sqlite.proofs.catalog_list.read_catalog.Goals as goal

pub returns-in-Ok-clause-refused : goal.returns-in-Ok-clause-refused
returns-in-Ok-clause-refused g c = rw (c.as_slice.ensures, c.in-Ok.ensures.payloads) at (refused-fault _ c.read_founded.result c.read_founded.ensures.refused)
