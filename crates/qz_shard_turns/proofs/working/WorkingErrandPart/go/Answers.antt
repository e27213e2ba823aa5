use Rattle.std.proofs.Common.{◌≡◌, ◌∙◌, Some, subst, sym}
use Rattle.std.specs.Prelude.{option_to_list}
use Rattle.qz_terms.specs.Answer.{put_by_job}
use Rattle.qz_catalog_turns.proofs.Turning.{call-grows}
use Rattle.qz_shard_turns.specs.Tying.{IsTied}
use Rattle.qz_shard_turns.proofs.Jobs.{tied-before, work-asked, work-did, work-tied}
use Rattle.qz_shard_turns.proofs.Tying.{joined-legal, joined-second}
use Rattle.qz_shard_turns.proofs.working.WorkingErrandPart.go.Goals as goal

pub worked-told-requires-clause-workable : goal.worked-told-requires-clause-workable
worked-told-requires-clause-workable g c =
    let noted : c.args.self.now.note ≡ Some c.in-Some.note = sym c.take.ensures.value ∙ c.in-Some.is in
    let w = rw noted at c.requires.can_go.2 in
    let tied = subst (IsTied c.requires.key) (sym c.part.view_is) c.requires.fits_key in
    work-asked c.in-Some.note.seen.list c.join.new.pass.seen.list _ _ _ _ _ c.part.inside.shard.held w (joined-second _ _ _ c.join.ensures) (joined-legal _ _ _ c.join.ensures tied.catalog w.legal)
    (tied-before c.requires.key (record { shard = c.part.inside.shard; note = c.part.inside.note }) c.in-Some.note c.join.new.pass tied c.join.ensures) c.len-found.ensures.legal

pub returns-clause-done : goal.returns-clause-done
returns-clause-done g c =
    rw (← c.part.view_is) (work-did g.K.Keeper.sound g.K.Keeper.faults _ _ _ c.part.inside.shard c.worked-told.new.shard c.worked-told.result c.worked-told.ensures.answer c.worked-told.ensures.shard c.len-found.ensures.legal c.len-left.ensures.legal)

pub returns-clause-grows : goal.returns-clause-grows
returns-clause-grows g c =
    rw (← c.part.view_is) (record {
      begins = call-grows _ _ _ c.part.inside.shard.held c.worked-told.new.shard.held _ (λ h t l is. (option_to_list (put_by_job h c.args.self.now.moment c.args.self.now.caller c.args.self.now.job.now), sym is.list)) c.worked-told.ensures.answer.call;
      faults = c.worked-told.ensures.goes_on.later;
    })

pub returns-clause-fits : goal.returns-clause-fits
returns-clause-fits g c =
    let noted : c.args.self.now.note ≡ Some c.in-Some.note = sym c.take.ensures.value ∙ c.in-Some.is in
    record {
      still = λ place seen fitted begins can.
          work-tied _ place (record { shard = c.part.inside.shard; note = c.part.inside.note }) (record { shard = c.worked-told.new.shard; note = c.join.new.pass }) c.in-Some.note _ _ _ c.worked-told.result.reply
          (subst (IsTied place) (sym c.part.view_is) fitted) c.join.ensures c.worked-told.ensures.shard (rw noted at can.2) c.len-found.ensures.legal c.worked-told.ensures.answer.call;
    }
