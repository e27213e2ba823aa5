use Rattle.std.proofs.Common.{le_refl, le_trans}
use Rattle.qz_regrading.proofs.Keeping.{keeps-more, keeps-same}
use Rattle.qz_regrading.proofs.Working.{work_answered, work_none, work_refused}
use Rattle.qz_regrading.proofs.worker.work.Goals as goal

pub loop-init : goal.loop-init
loop-init g c = record { keeps = keeps-same _; later = le_refl _; works = work_none _ _ _ }

pub loop-preserved : goal.loop-preserved
loop-preserved g c = record {
  keeps = keeps-more _ _ _ c.loop.invariant.keeps c.ask.ensures.tells.keeps;
  later = le_trans c.loop.invariant.later c.ask.ensures.counts.later;
  works = work_answered _ _ _ _ _ _ _ _ _ c.loop.invariant.works (rw c.in-Ok.is at c.ask.ensures.works);
}

pub returns-then-is_over-clause-works : goal.returns-then-is_over-clause-works
returns-then-is_over-clause-works g c = work_answered _ _ _ _ _ _ _ _ _ c.loop.invariant.works (rw c.in-Ok.is at c.ask.ensures.works)

pub returns-in-Refused-clause-works : goal.returns-in-Refused-clause-works
returns-in-Refused-clause-works g c = work_refused _ _ _ _ _ _ _ _ c.loop.invariant.works (rw c.in-Refused.is at c.ask.ensures.works)
