use Rattle.qz_sqlite.proofs.Lists.{last-alone}
use Rattle.qz_sqlite.proofs.keepers.only.Goals as goal

pub returns : goal.returns
returns g c = last-alone _ _ _ c.requires c.in-Some.ensures.items
