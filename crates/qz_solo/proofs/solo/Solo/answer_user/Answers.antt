use Rattle.std.proofs.Common.{sym, ◌∙◌}
use Rattle.qz_solo.proofs.Seeing.{known_seen, seen_from}
use Rattle.qz_school.proofs.Missing.{forbidden_first}
use Rattle.qz_solo.proofs.Serving.{records_served, refused_served}
use Rattle.qz_solo.proofs.Standing.{told_records}
use Rattle.qz_solo.proofs.solo.Solo.answer_user.Goals as goal

pub invariant_of-self : goal.invariant_of-self
invariant_of-self g c = told_records _ c.self.inside.catalog c.apply.new.self c.self.inside.shards.items c.args.moment c.args.user.now c.args.ask.now c.apply.result c.self.invariant c.apply.ensures.answer

pub returns-then-asks_catalog : goal.returns-then-asks_catalog
returns-then-asks_catalog g c =
    let cs = c.self.inside.catalog in
    let ss = c.self.inside.shards.items in
    let known = known_seen c.args.self.now (record { catalog = cs; parts = ss }) c.args.ask.now c.args.user.now c.self.view_is c.requires.known in
    seen_from g.K.Keeper.sound g.K.Keeper.faults c.args.self.now (record { catalog = cs; parts = ss }) _ c.args.moment c.args.ask.now c.apply.result c.self.view_is
    (records_served g.K.Keeper.sound g.K.Keeper.faults cs c.apply.new.self ss c.args.moment c.args.ask.now c.args.user.now c.apply.result c.self.invariant c.requires.asked known (sym c.asks_catalog.ensures ∙ c.if-asks_catalog.true)
    (record { call = c.apply.ensures.answer; goes_on = c.apply.ensures.goes_on }))

pub returns-in-Some : goal.returns-in-Some
returns-in-Some g c =
    let l = c.args.self.now in
    refused_served g.K.Keeper.sound g.K.Keeper.faults l.catalog l.parts c.args.moment c.args.ask.now c.args.user.now c.in-Some.refusal c.len-length.ensures.solo c.requires.asked c.requires.known (sym c.asks_catalog.ensures ∙ c.if-asks_catalog.false)
    (forbidden_first l.catalog.held.list c.args.user.now c.args.ask.now c.in-Some.refusal (sym c.forbidden.ensures ∙ c.in-Some.is))
