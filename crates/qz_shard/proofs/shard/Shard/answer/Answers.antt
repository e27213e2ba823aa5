use Rattle.std.proofs.Common.{ap, subst, sym, ◌∙◌}
use Rattle.qz_keeper.proofs.Calls.{recorded_call}
use Rattle.qz_keeper.proofs.Settling.{call_kept, list_ends, ready_of}
use Rattle.qz_terms.specs.declared.reply.Reply.TheVariants as reply
use Rattle.qz_terms.specs.Answer.{answer_here, list_after}
use Rattle.qz_shard.specs.Answering.{IsPosed}
use Rattle.qz_shard.specs.Keeping.{IsTold, Keeping, shard_over}
use Rattle.qz_book.specs.Nexts.{IsNext}
use Rattle.qz_shard.proofs.KeptCalls.{answer_ends, answer_told, kept_there, ready_for}
use Rattle.qz_shard.proofs.shard.Shard.answer.Goals as goal

pub answer-told-requires-clause-ready : goal.answer-told-requires-clause-ready
answer-told-requires-clause-ready g c =
    let settled = rw (← c.self.view_is) at c.requires.settled in
    ready_for g.K.Keeper.kept c.self.inside.core.index c.self.inside.core.count c.self.inside.core.records c.self.inside.keeper c.args.ask.now.key c.self.invariant settled c.len-length.ensures.held c.requires.brief

pub invariant_of-self : goal.invariant_of-self
invariant_of-self g c =
    let old = c.self.inside.core in
    let new = c.answer-told.new.self in
    let settled = rw (← c.self.view_is) at c.requires.settled in
    let may = IsNext old.index old.count in
    let ready = ready_of g.K.Keeper.kept may old.records c.self.inside.keeper c.self.invariant settled in
    let after = list_after old.records c.args.moment c.args.user.now c.args.plan.now c.args.ask.now in
    let ends = answer_ends old new c.args.moment c.args.user.now c.args.plan.now c.args.ask.now c.answer-told.result c.answer-told.ensures.answered c.answer-told.ensures.unchanged in
    kept_there g.K.Keeper.kept old.index old.count new.index new.count new.records c.answer-told.new.recorder c.answer-told.ensures.shard.0 c.answer-told.ensures.shard.1
    (call_kept g.K.Keeper.kept g.K.Keeper.sound g.K.Keeper.faults may old.records after new.records c.self.inside.keeper c.answer-told.new.recorder c.answer-told.result c.self.invariant ready c.answer-told.ensures.recorded
    (list_ends old.records after new.records _ c.answer-told.result ends))

pub returns-clause-ends : goal.returns-clause-ends
returns-clause-ends g c =
    let old = c.self.inside.core in
    let new = c.answer-told.new.self in
    let settled = rw (← c.self.view_is) at c.requires.settled in
    let posed = rw (← c.self.view_is) at c.requires.posed in
    let may = IsNext old.index old.count in
    let ready = ready_of g.K.Keeper.kept may old.records c.self.inside.keeper c.self.invariant settled in
    let ends = answer_ends old new c.args.moment c.args.user.now c.args.plan.now c.args.ask.now c.answer-told.result c.answer-told.ensures.answered c.answer-told.ensures.unchanged in
    rw (← c.self.view_is) (rw c.reply_of.ensures
    (recorded_call g.K.Keeper.kept g.K.Keeper.sound g.K.Keeper.faults reply.Refused (IsTold old.index old.count c.args.moment c.args.user.now c.args.plan.now c.args.ask.now) old.records
    (list_after old.records c.args.moment c.args.user.now c.args.plan.now c.args.ask.now) new.records (may old.records) c.self.inside.keeper c.answer-told.new.recorder
    (answer_here old.records c.args.moment c.args.user.now c.args.plan.now c.args.ask.now) c.answer-told.result ready
    (answer_told old.index old.count c.args.moment c.args.user.now c.args.plan.now c.args.ask.now old.records posed) ends c.answer-told.ensures.recorded))
