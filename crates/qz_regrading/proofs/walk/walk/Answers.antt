use Rattle.std.proofs.Common.{sym}
use Rattle.qz_regrading.proofs.Meeting.{before-none, meets-none, walked-all, walked-job, walked-refused}
use Rattle.qz_regrading.proofs.Working.{quietly_missing, quietly_none, quietly_refused}
use Rattle.qz_regrading.proofs.walk.walk.Goals as goal
use Rattle.qz_regrading.proofs.walk.walk.Goals.{in-Some-Job, in-Some}

pub loop-shard-init : goal.loop-shard-init
loop-shard-init g c = record { walked = record { meets = meets-none _ _ _; done = λ clean. before-none _ _ _ }; works = quietly_none _ _ _ _ }

pub returns-in-Some-Shard-clause-done : goal.returns-in-Some-Shard-clause-done
returns-in-Some-Shard-clause-done g c =
    let is = rw c.in-Some-Shard.field-0-is at c.in-Some-Shard.ensures in
    walked-all _ _ _ _ _ _ _ _ _ _ _ _ c.loop-shard.invariant.walked c.work_jobs-end.ensures.keeps c.work_jobs-end.ensures.refused (sym is)

pub returns-in-Some-Shard-clause-works : goal.returns-in-Some-Shard-clause-works
returns-in-Some-Shard-clause-works g c =
    let is = rw c.in-Some-Shard.field-0-is at c.in-Some-Shard.ensures in
    quietly_missing _ _ _ _ _ _ _ _ _ (sym is) c.loop-shard.invariant.works c.work_jobs-end.ensures.works

pub loop-shard-preserved : goal.loop-shard-preserved
loop-shard-preserved g c =
    elim c.match-missing_thing.branch [
      | in-Some-Job w ↦ rw (w.met-is, w.next-is, w.min-next.ensures) (record {
        walked = walked-job _ _ _ _ _ _ _ _ _ _ _ _ c.loop-shard.invariant.walked c.work_jobs-end.ensures.keeps c.work_jobs-end.ensures.later c.work_jobs-end.ensures.done;
        works = quietly_missing _ _ _ _ _ _ _ _ _ (sym (rw w.in-Some-Job.field-0-is at w.in-Some-Job.ensures)) c.loop-shard.invariant.works c.work_jobs-end.ensures.works;
      })
      | in-Some w ↦ rw (w.met-is, w.next-is, w.refuse.ensures) (record {
        walked = walked-refused _ _ _ _ _ _ _ _ _ _ _ _ c.loop-shard.invariant.walked c.work_jobs-end.ensures.keeps c.work_jobs-end.ensures.later c.work_jobs-end.ensures.refused.fault;
        works = quietly_refused _ _ _ _ _ _ _ _ c.loop-shard.invariant.works c.work_jobs-end.ensures.works;
      })
    ]
