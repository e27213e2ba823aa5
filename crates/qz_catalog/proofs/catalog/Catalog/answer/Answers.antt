use Rattle.qz_keeper.proofs.Calls.{recorded_call}
use Rattle.qz_keeper.proofs.Settling.{call_kept, list_ends, ready_of}
use Rattle.qz_terms.specs.declared.reply.Reply.TheVariants as reply
use Rattle.qz_terms.specs.CatalogAnswer.{catalog_after, catalog_answer}
use Rattle.qz_catalog.specs.Keeping.{IsTold, MayFollow}
use Rattle.qz_catalog.proofs.KeptCalls.{answer_ends, answer_told, ready_for}
use Rattle.qz_catalog.proofs.catalog.Catalog.answer.Goals as goal

pub answer-told-requires-clause-ready : goal.answer-told-requires-clause-ready
answer-told-requires-clause-ready g c =
    let settled = rw (← c.self.view_is) at c.requires.settled in
    ready_for g.K.Keeper.kept c.self.inside.core c.self.inside.keeper c.args.moment c.args.user.now c.args.ask.now c.self.invariant settled c.requires.brief c.requires.names

pub invariant_of-self : goal.invariant_of-self
invariant_of-self g c =
    let old = c.self.inside.core in
    let new = c.answer-told.new.self in
    let settled = rw (← c.self.view_is) at c.requires.settled in
    let ready = ready_of g.K.Keeper.kept MayFollow old c.self.inside.keeper c.self.invariant settled in
    let after = catalog_after old c.args.moment c.args.user.now c.args.ask.now in
    let ends = answer_ends old new c.args.moment c.args.user.now c.args.ask.now c.answer-told.result c.answer-told.ensures.told c.answer-told.ensures.unchanged in
    call_kept g.K.Keeper.kept g.K.Keeper.sound g.K.Keeper.faults MayFollow old after new c.self.inside.keeper c.answer-told.new.recorder c.answer-told.result c.self.invariant ready c.answer-told.ensures.recorded
    (list_ends old after new _ c.answer-told.result ends)

pub returns-clause-ends : goal.returns-clause-ends
returns-clause-ends g c =
    let old = c.self.inside.core in
    let new = c.answer-told.new.self in
    let settled = rw (← c.self.view_is) at c.requires.settled in
    let ready = ready_of g.K.Keeper.kept MayFollow old c.self.inside.keeper c.self.invariant settled in
    let ends = answer_ends old new c.args.moment c.args.user.now c.args.ask.now c.answer-told.result c.answer-told.ensures.told c.answer-told.ensures.unchanged in
    rw (← c.self.view_is) (rw c.reply_of.ensures
    (recorded_call g.K.Keeper.kept g.K.Keeper.sound g.K.Keeper.faults reply.Refused (IsTold c.args.moment c.args.user.now c.args.ask.now) old
    (catalog_after old c.args.moment c.args.user.now c.args.ask.now) new (MayFollow old) c.self.inside.keeper c.answer-told.new.recorder
    (catalog_answer old c.args.moment c.args.user.now c.args.ask.now) c.answer-told.result ready
    (answer_told c.args.moment c.args.user.now c.args.ask.now old) ends c.answer-told.ensures.recorded))
