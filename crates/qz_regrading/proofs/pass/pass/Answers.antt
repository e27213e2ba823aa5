use Rattle.std.proofs.Common.{◌∙◌}
use Rattle.qz_regrading.proofs.Meeting.{passed-all, passed-first, passed-more}
use Rattle.qz_regrading.proofs.Searching.{pass_counted, pass_first, pass_more}
use Rattle.qz_regrading.proofs.pass.pass.Goals as goal

pub loop-init : goal.loop-init
loop-init g c =
    let walked = rw c.nothing-met.ensures at c.walk-next.ensures.meets in
    record {
      passed = passed-first _ _ _ _ _ _ _ _ _ walked c.walk-next.ensures.done c.sweep.ensures.meets;
      works = pass_first _ _ _ _ _ _ _ _ (rw c.nothing-met.ensures at c.walk-next.ensures.works) c.sweep.ensures.works;
    }

pub returns-in-Some-2-clause-ends : goal.returns-in-Some-2-clause-ends
returns-in-Some-2-clause-ends g c = passed-all _ _ _ _ _ _ _ _ _ c.in-Some.count c.loop.invariant.passed c.in-Some.ensures.meets c.in-Some.ensures.counted c.if-count-next.false

pub returns-in-Some-2-clause-works : goal.returns-in-Some-2-clause-works
returns-in-Some-2-clause-works g c = pass_counted _ _ _ _ _ _ _ c.in-Some.ensures.meets.keeps.count (pass_more _ _ _ _ _ _ _ _ c.loop.invariant.works c.in-Some.ensures.works)

pub returns-in-Some-2-2-clause-works : goal.returns-in-Some-2-2-clause-works
returns-in-Some-2-2-clause-works g c = pass_counted _ _ _ _ _ _ _ c.in-Some-2.ensures.meets.keeps.count (pass_more _ _ _ _ _ _ _ _ c.loop.invariant.works c.in-Some-2.ensures.works)

pub loop-preserved : goal.loop-preserved
loop-preserved g c = record {
  passed = passed-more _ _ _ _ _ _ _ _ _ _ _ _ _ c.loop.invariant.passed c.in-Some.ensures.meets c.walk-next-in-Some.ensures.meets c.walk-next-in-Some.ensures.done;
  works = pass_counted _ _ _ _ _ _ _ (c.walk-next-in-Some.ensures.meets.keeps.count ∙ c.in-Some.ensures.meets.keeps.count)
      (pass_more _ _ _ _ _ _ _ _ (pass_more _ _ _ _ _ _ _ _ c.loop.invariant.works c.in-Some.ensures.works) c.walk-next-in-Some.ensures.works);
}
