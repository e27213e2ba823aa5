use Rattle.std.proofs.Common.{None, refl, ap, ◌∙◌, arith}
use Rattle.std.specs.Prelude.{Ok}
use Rattle.qz_terms.specs.declared.reply.Reply.TheVariants as reply
use Rattle.qz_regrading.proofs.Meeting.{meets-more, meets-none, meets-quiet}
use Rattle.qz_regrading.proofs.Searching.{meets_stop, searched_all, searched_on, searched_stop, searching_more, searching_none, stop_missing}
use Rattle.qz_regrading.proofs.sweep.sweep_shard.Goals as goal

pub loop-looks-init : goal.loop-looks-init
loop-looks-init g c = record { meets = meets-none _ _ _; works = searching_none _ _ _ _ _ }

pub returns-in-Ok-None-clause-works : goal.returns-in-Ok-None-clause-works
returns-in-Ok-None-clause-works g c =
    let look = rw c.in-Ok-None.field-0-is at c.in-Ok-None.ensures.looks in
    searched_all _ _ _ _ _ _ _ _ _ _ _ (Ok None) refl refl c.loop-looks.invariant.works look

pub returns-in-Err-clause-meets : goal.returns-in-Err-clause-meets
returns-in-Err-clause-meets g c =
    meets-more _ _ _ _ _ _ _ _ _ c.loop-looks.invariant.meets (meets_stop _ _ _ _ _ _ _ c.is_there.result c.is_there.ensures c.in-Err.ensures.keeps c.in-Err.ensures.later (λ same. c.in-Err.ensures.refused.fault (ap reply.Refused same)))

pub returns-in-Err-clause-missing : goal.returns-in-Err-clause-missing
returns-in-Err-clause-missing g c = λ none. stop_missing _ _ _ _ c.is_there.result c.is_there.ensures none c.in-Err.ensures.looks.missing

pub returns-in-Err-clause-works : goal.returns-in-Err-clause-works
returns-in-Err-clause-works g c = searched_stop _ _ _ _ _ _ _ _ _ _ _ _ _ c.is_there.result c.is_there.ensures c.loop-looks.invariant.works c.in-Err.ensures.looks

pub loop-looks-preserved : goal.loop-looks-preserved
loop-looks-preserved g c =
    let found = meets-more _ _ _ _ _ _ _ _ _ c.loop-looks.invariant.meets (meets-quiet _ _ _ _ _ c.live_after.ensures.keeps c.live_after.ensures.later) in
    record {
      meets = meets-more _ _ _ _ _ _ _ _ _ found c.settle.ensures.meets;
      works = searching_more _ _ _ _ _ _ _ _ _ _ _ _ _ _ _ (c.in-Ok-Some.is ∙ ap Ok c.in-Ok-Some.field-0-is) c.loop-looks.invariant.works c.live_after.ensures.looks c.settle.ensures.works;
    }

pub returns-clause-works : goal.returns-clause-works
returns-clause-works g c =
    let most = c.loop-looks.auto._looks-end in
    let ended = c.loop-looks-test.false in
    searched_on _ _ _ _ _ _ _ _ _ (omega (arith, most, ended)) c.loop-looks.invariant.works
