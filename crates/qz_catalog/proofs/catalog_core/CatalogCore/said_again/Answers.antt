use Rattle.std.proofs.Common.{List, sym, subst}
use Rattle.qz_terms.specs.Cause.{verdict_in}
use Rattle.qz_catalog.specs.Applying.{IsLooked, IsRepeated, stand_in}
use Rattle.qz_terms.specs.declared.record.Record.{Record}
use Rattle.qz_catalog.proofs.ShownLemmas.{again-looked, asked-at}
use Rattle.qz_catalog.proofs.catalog_core.CatalogCore.said_again.Goals as goal

pub said-requires-clause-asked : goal.said-requires-clause-asked
said-requires-clause-asked c =
    let list = c.self.inside.book.records.items in
    let again : IsRepeated list c.args.at (verdict_in list c.args.user.now (stand_in c.args.ask.now.key c.args.ask.now.request) c.args.ask.now) =
    subst (λ (l : List Record). IsRepeated l c.args.at (verdict_in l c.args.user.now (stand_in c.args.ask.now.key c.args.ask.now.request) c.args.ask.now)) (sym c.self.view_is) c.requires in
    asked-at list c.args.at _ again

pub returns : goal.returns
returns c =
    let list = c.self.inside.book.records.items in
    let again : IsRepeated list c.args.at (verdict_in list c.args.user.now (stand_in c.args.ask.now.key c.args.ask.now.request) c.args.ask.now) =
    subst (λ (l : List Record). IsRepeated l c.args.at (verdict_in l c.args.user.now (stand_in c.args.ask.now.key c.args.ask.now.request) c.args.ask.now)) (sym c.self.view_is) c.requires in
    subst (λ (l : List Record). IsLooked l c.args.user.now c.args.ask.now c.said.result) c.self.view_is (again-looked list c.args.user.now c.args.ask.now c.args.at c.said.result again c.said.ensures)
