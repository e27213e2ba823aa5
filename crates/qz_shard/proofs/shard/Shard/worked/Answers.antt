use Rattle.std.proofs.Common.{ap, subst, sym, refl, ◌∙◌, arith}
use Rattle.qz_keeper.proofs.Calls.{recorded_call}
use Rattle.qz_keeper.proofs.Settling.{call_kept, list_ends, ready_of}
use Rattle.qz_terms.specs.declared.reply.Reply.TheVariants as reply
use Rattle.qz_terms.specs.Answer.{work_answer, work_after}
use Rattle.qz_book.specs.Nexts.{IsNext}
use Rattle.qz_shard.specs.Works.{IsWorked}
use Rattle.qz_shard.proofs.KeptCalls.{kept_there, ready_for, work_ends}
use Rattle.qz_shard.proofs.shard.Shard.worked.Goals as goal

pub worked-told-requires-clause-ready : goal.worked-told-requires-clause-ready
worked-told-requires-clause-ready g c =
    let settled = rw (← c.self.view_is) at c.requires.settled in
    ready_for g.K.Keeper.kept c.self.inside.core.index c.self.inside.core.count c.self.inside.core.records c.self.inside.keeper _ c.self.invariant settled c.len-length.ensures.held (omega arith)

pub invariant_of-self : goal.invariant_of-self
invariant_of-self g c =
    let old = c.self.inside.core in
    let new = c.worked-told.new.self in
    let settled = rw (← c.self.view_is) at c.requires.settled in
    let may = IsNext old.index old.count in
    let ready = ready_of g.K.Keeper.kept may old.records c.self.inside.keeper c.self.invariant settled in
    let after = work_after old.records c.args.moment c.args.caller c.args.job.now in
    let ends = work_ends old new c.args.moment c.args.caller c.args.job.now c.worked-told.result c.worked-told.ensures.worked c.worked-told.ensures.unchanged in
    kept_there g.K.Keeper.kept old.index old.count new.index new.count new.records c.worked-told.new.recorder c.worked-told.ensures.shard.0 c.worked-told.ensures.shard.1
    (call_kept g.K.Keeper.kept g.K.Keeper.sound g.K.Keeper.faults may old.records after new.records c.self.inside.keeper c.worked-told.new.recorder c.worked-told.result c.self.invariant ready c.worked-told.ensures.recorded
    (list_ends old.records after new.records _ c.worked-told.result ends))

pub returns-clause-ends : goal.returns-clause-ends
returns-clause-ends g c =
    let old = c.self.inside.core in
    let new = c.worked-told.new.self in
    let settled = rw (← c.self.view_is) at c.requires.settled in
    let may = IsNext old.index old.count in
    let ready = ready_of g.K.Keeper.kept may old.records c.self.inside.keeper c.self.invariant settled in
    let ends = work_ends old new c.args.moment c.args.caller c.args.job.now c.worked-told.result c.worked-told.ensures.worked c.worked-told.ensures.unchanged in
    rw (← c.self.view_is) (rw c.reply_of.ensures
    (recorded_call g.K.Keeper.kept g.K.Keeper.sound g.K.Keeper.faults reply.Refused (λ h told g. IsWorked h c.args.moment c.args.caller c.args.job.now told g) old.records
    (work_after old.records c.args.moment c.args.caller c.args.job.now) new.records (may old.records) c.self.inside.keeper c.worked-told.new.recorder
    (work_answer old.records c.args.moment c.args.caller c.args.job.now) c.worked-told.result ready
    (record { reply = refl; list = refl }) ends c.worked-told.ensures.recorded))
