use Rattle.qz_solo.proofs.folders.close.Goals as goal

pub returns-clause-faults : goal.returns-clause-faults
returns-clause-faults g c = rw (c.into_parts-catalog.ensures.catalog, c.into_parts-catalog.ensures.shards) at c.close.ensures.faults

pub returns-clause-stays_sound : goal.returns-clause-stays_sound
returns-clause-stays_sound g c = rw (c.into_parts-catalog.ensures.catalog, c.into_parts-catalog.ensures.shards) at c.close.ensures.stays_sound
