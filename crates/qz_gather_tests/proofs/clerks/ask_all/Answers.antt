use Rattle.qz_visit.proofs.Holding.{goes_on, goes_self}
use Rattle.qz_gather_tests.proofs.clerks.ask_all.Goals as goal

pub loop-line-init : goal.loop-line-init
loop-line-init g c = goes_self _

pub loop-line-preserved : goal.loop-line-preserved
loop-line-preserved g c = goes_on _ _ _ c.loop-line.invariant c.ask_line.ensures

pub returns : goal.returns
returns g c = c.loop-line.invariant
