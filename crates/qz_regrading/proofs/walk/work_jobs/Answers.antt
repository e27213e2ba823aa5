use Rattle.std.proofs.Common.{le_refl, le_trans}
use Rattle.qz_regrading.proofs.Keeping.{keeps-more, keeps-same}
use Rattle.qz_regrading.proofs.Meeting.{done-more, none-done}
use Rattle.qz_regrading.proofs.Working.{work_more, work_none}
use Rattle.qz_regrading.proofs.walk.work_jobs.Goals as goal

pub loop-job-init : goal.loop-job-init
loop-job-init g c = record { keeps = keeps-same _; later = le_refl _; done = none-done _ _ _ _ (le_refl _); works = work_none _ _ _ }

pub loop-job-preserved : goal.loop-job-preserved
loop-job-preserved g c = record {
  keeps = keeps-more _ _ _ c.loop-job.invariant.keeps c.work.ensures.keeps;
  later = le_trans c.loop-job.invariant.later c.work.ensures.later;
  done = done-more _ _ _ _ _ c.work.ensures.keeps c.loop-job.invariant.done c.in_default.ensures.ends;
  works = work_more _ _ _ _ _ _ c.loop-job.invariant.works c.in_default.ensures.works;
}

pub returns-in-Err-clause-works : goal.returns-in-Err-clause-works
returns-in-Err-clause-works g c = work_more _ _ _ _ _ _ c.loop-job.invariant.works (rw c.in-Err.is at c.work.ensures.works)
