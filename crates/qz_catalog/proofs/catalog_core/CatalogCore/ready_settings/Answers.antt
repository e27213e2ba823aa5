use Rattle.std.proofs.Common.{◌≡◌, List, subst}
use Rattle.std.specs.Prelude.{IfOk, Option}
use Rattle.qz_terms.specs.declared.access.Settings.{Settings}
use Rattle.qz_terms.specs.declared.record.Record.{Record}
use Rattle.qz_catalog.specs.Readings.{ready_settings}
use Rattle.qz_catalog.proofs.catalog_core.CatalogCore.ready_settings.Goals as goal

pub returns : goal.returns
returns c = subst (λ (h : List Record). IfOk c.ready_settings.result (λ (found : Option Settings). found ≡ ready_settings h c.args.quiz c.args.user)) c.self.view_is c.ready_settings.ensures
