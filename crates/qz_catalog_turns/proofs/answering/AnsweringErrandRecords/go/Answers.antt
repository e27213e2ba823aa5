use Rattle.qz_catalog_turns.proofs.Owning.{did-reply}
use Rattle.qz_catalog_turns.proofs.Turning.{asked-each, follows-call, told-grows}
use Rattle.qz_catalog_turns.proofs.answering.AnsweringErrandRecords.go.Goals as goal

pub answered-told-requires-clause-asked : goal.answered-told-requires-clause-asked
answered-told-requires-clause-asked g c =
    asked-each c.requires.seen.list c.records.inside.catalog.held c.args.self.now.user.now c.args.self.now.ask.now c.args.self.now.moment (rw (← c.records.view_is) at c.requires.begins.begins) c.requires.can_go.asked

pub returns-clause-done : goal.returns-clause-done
returns-clause-done g c =
    rw (← c.records.view_is) (did-reply g.K.Keeper.sound g.K.Keeper.faults _ c.records.inside.catalog c.answered-told.new.catalog c.answered-told.result c.answered-told.ensures.answer c.len-found.ensures.legal c.len-left.ensures.legal)

pub returns-clause-grows : goal.returns-clause-grows
returns-clause-grows g c =
    rw (← c.records.view_is) (follows-call g.K.Keeper.sound g.K.Keeper.faults _ _ _ c.records.inside.catalog c.answered-told.new.catalog c.answered-told.result.reply (told-grows _ _ _) c.answered-told.ensures.answer.call c.answered-told.ensures.goes_on)
