use Rattle.qz_catalog.proofs.catalog_core.CatalogCore.put.Goals as goal

pub returns-clause-recorded : goal.returns-clause-recorded
returns-clause-recorded g c = rw (← c.self.view_is) c.put.ensures.recorded
