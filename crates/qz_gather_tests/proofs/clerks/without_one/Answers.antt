use Rattle.qz_gather_tests.proofs.Lost.{true_removed}
use Rattle.qz_gather_tests.proofs.clerks.without_one.Goals as goal

pub returns : goal.returns
returns c = λ t are. true_removed t c.args.notes.items _ c.args.place c.remove.ensures.items are
