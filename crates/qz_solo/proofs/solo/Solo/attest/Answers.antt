use Rattle.qz_solo.proofs.Upholding.{stand_as_school}
use Rattle.qz_solo.proofs.solo.Solo.attest.Goals as goal

pub returns : goal.returns
returns g c = rw (← c.self.view_is) (stand_as_school c.self.inside.catalog c.self.inside.shards.items c.self.invariant c.len-length.ensures.legal c.len-length.ensures.records (rw c.deref.ensures.value at c.attest_shards.ensures))
