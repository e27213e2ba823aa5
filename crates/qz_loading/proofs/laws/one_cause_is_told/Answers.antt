use Rattle.qz_loading.proofs.Once.{one-cause}
use Rattle.qz_loading.proofs.laws.one_cause_is_told.Goals as goal

pub returns : goal.returns
returns g c = record { each = λ a b of_a of_b told_a told_b. one-cause c.args._folder.now (g.F.Shelf.files c.args._shelf.now) a b c.requires.told of_a of_b told_a told_b }
