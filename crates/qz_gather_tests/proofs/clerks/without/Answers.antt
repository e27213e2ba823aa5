use Rattle.qz_gather_tests.proofs.clerks.without.Goals as goal

pub loop-init : goal.loop-init
loop-init c = λ t are. are

pub loop-preserved : goal.loop-preserved
loop-preserved c = λ t are. c.without_one-left.ensures t (c.loop.invariant t are)

pub returns : goal.returns
returns c = c.loop.invariant
