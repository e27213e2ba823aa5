use Rattle.std.proofs.Common.{le_refl, le_trans}
use Rattle.qz_regrading.specs.Loops as loops
use Rattle.qz_regrading.proofs.Searching.{ended_by}
use Rattle.qz_regrading.proofs.pass.regrade_loop.Goals as goal

pub loop-init : goal.loop-init
loop-init g c = record { later = le_refl _; passes = loops.none _ }

pub returns-then-is_set-clause-regrades : goal.returns-then-is_set-clause-regrades
returns-then-is_set-clause-regrades g c = record {
  between = record { desk = c.loop.desk; clock = c.loop.clock };
  before = c.loop.invariant.passes;
  last = c.pass.ensures.works.asked;
  works = c.pass.ensures.works.works;
  sweeps = c.pass.ensures.works.so.sweeps;
  ended = ended_by _ _ _ c.end.ensures c.pass.ensures.works.so.met;
}

pub loop-preserved : goal.loop-preserved
loop-preserved g c = record {
  later = le_trans c.loop.invariant.later c.pass-in-loop.ensures.ends.later;
  passes = loops.more _ _ _ _ c.loop.invariant.passes c.pass-in-loop.ensures.works.works c.pass-in-loop.ensures.works.so.sweeps;
}
