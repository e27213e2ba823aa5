use Rattle.qz_catalog_turns.proofs.Turning.{follows-call, looks-grow}
use Rattle.qz_catalog_turns.proofs.looking.LookFoundErrandRecords.go.Goals as goal

pub returns-clause-grows : goal.returns-clause-grows
returns-clause-grows g c =
    rw (← c.records.view_is) (follows-call g.K.Keeper.sound g.K.Keeper.faults _ _ _ c.records.inside.catalog c.look_up-told.new.catalog _ (looks-grow _) c.look_up-told.ensures.told c.look_up-told.ensures.goes_on)
