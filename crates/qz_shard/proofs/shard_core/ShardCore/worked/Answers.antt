use Rattle.std.proofs.Common.{◌≡◌, ◌+◌, ◌≤◌, ◌∷◌, ◌++◌, [], IfOk, List, refl, sym, ap, subst}
use Rattle.std.proofs.lemmas.Result.{IfOk-weaker}
use Rattle.qz_keeper.specs.Recording.{one_put}
use Rattle.qz_terms.specs.Answer.{said}
use Rattle.qz_book.specs.Nexts.{IsNext}
use Rattle.qz_terms.specs.declared.record.Record.{Record}
use Rattle.qz_shard.specs.declared.working.Work.{Work}
use Rattle.qz_shard.specs.declared.working.Work.TheVariants as work
use Rattle.qz_shard.specs.Holdings.{Holding, IsWorkable}
use Rattle.qz_lives.specs.Changes.{gradings_by}
use Rattle.qz_shard.specs.Puts.{IsPutWith}
use Rattle.qz_shard.specs.Works.{IsWork, IsWorked}
use Rattle.qz_shard.proofs.Counting.{few-worked}
use Rattle.qz_shard.proofs.WorkLemmas.{keyless-work, work-next, worked-put}
use Rattle.qz_shard.proofs.shard_core.ShardCore.worked.Goals as goal

pub work_on-requires-clause-slot : goal.work_on-requires-clause-slot
work_on-requires-clause-slot g c =
    let able : IsWorkable c.self.inside.book c.args.job.now c.args.now =
    subst (λ (s : Holding). IsWorkable s.records c.args.job.now c.args.now) (sym c.self.view_is) c.requires.workable in
    able.has_slot

pub put-requires-clause-next : goal.put-requires-clause-next
put-requires-clause-next g c =
    let h = c.self.inside.book in
    let view : h ≡ c.args.self.now.records = ap (λ (s : Holding). s.records) c.self.view_is in
    let able : IsWorkable h c.args.job.now c.args.now = subst (λ (l : List Record). IsWorkable l c.args.job.now c.args.now) (sym view) c.requires.workable in
    let told : IsWork h c.args.now c.args.caller c.args.job.now (work.Put c.in-Put.made) = subst (λ (w : Work). IsWork h c.args.now c.args.caller c.args.job.now w) c.in-Put.is c.in_ok-place.ensures.work in
    work-next c.self.inside.index c.self.inside.count h c.args.now c.args.caller c.args.job.now c.in-Put.made c.self.invariant.held able told

pub put-requires-clause-ready : goal.put-requires-clause-ready
put-requires-clause-ready g c =
    let told : IsWork c.self.inside.book c.args.now c.args.caller c.args.job.now (work.Put c.in-Put.made) = subst (λ (w : Work). IsWork c.self.inside.book c.args.now c.args.caller c.args.job.now w) c.in-Put.is c.in_ok-place.ensures.work in
    let next = subst (λ (s : Holding). IsNext s.index s.count s.records c.in-Put.made) c.self.view_is (put-requires-clause-next g c) in
    c.requires.ready.each c.in-Put.made next (keyless-work c.self.inside.book c.args.now c.args.caller c.args.job.now c.in-Put.made told)

pub returns-clause-worked : goal.returns-clause-worked
returns-clause-worked g c =
    let h = c.self.inside.book in
    let view : h ≡ c.args.self.now.records = ap (λ (s : Holding). s.records) c.self.view_is in
    let told : IsWork h c.args.now c.args.caller c.args.job.now (work.Put c.in-Put.made) = subst (λ (w : Work). IsWork h c.args.now c.args.caller c.args.job.now w) c.in-Put.is c.in_ok-place.ensures.work in
    subst (λ (l : List Record). IfOk c.put.result (λ reply. IsWorked l c.args.now c.args.caller c.args.job.now reply c.put.new.self.records)) view
    (IfOk-weaker c.put.result (IsPutWith h c.put.new.self.records c.in-Put.made) (λ reply. IsWorked h c.args.now c.args.caller c.args.job.now reply c.put.new.self.records)
    (λ reply put. worked-put h c.put.new.self.records c.args.now c.args.caller c.args.job.now c.in-Put.made reply told put) c.put.ensures.put)

pub returns-clause-recorded : goal.returns-clause-recorded
returns-clause-recorded g c =
    let h = c.self.inside.book in
    let view : h ≡ c.args.self.now.records = ap (λ (s : Holding). s.records) c.self.view_is in
    let told : IsWork h c.args.now c.args.caller c.args.job.now (work.Put c.in-Put.made) = subst (λ (w : Work). IsWork h c.args.now c.args.caller c.args.job.now w) c.in-Put.is c.in_ok-place.ensures.work in
    let r = c.in-Put.made in
    let here = c.args.self.now.records in
    let told-here : IsWork here c.args.now c.args.caller c.args.job.now (work.Put r) = subst (λ (l : List Record). IsWork l c.args.now c.args.caller c.args.job.now (work.Put r)) view told in
    let after = (worked-put here (here ++ r ∷ []) c.args.now c.args.caller c.args.job.now r (said (here ++ r ∷ []) r) told-here (record { said_so = refl; put = refl })).list in
    let able : IsWorkable h c.args.job.now c.args.now = subst (λ (l : List Record). IsWorkable l c.args.job.now c.args.now) (sym view) c.requires.workable in
    let next = subst (λ (s : Holding). IsNext s.index s.count s.records r) c.self.view_is (work-next c.self.inside.index c.self.inside.count h c.args.now c.args.caller c.args.job.now r c.self.invariant.held able told) in
    one_put r next (sym after) c.put.ensures.recorded

pub returns-clause-count : goal.returns-clause-count
returns-clause-count g c =
    let h = c.self.inside.book in
    let view : h ≡ c.args.self.now.records = ap (λ (s : Holding). s.records) c.self.view_is in
    let told : IsWork h c.args.now c.args.caller c.args.job.now (work.Put c.in-Put.made) = subst (λ (w : Work). IsWork h c.args.now c.args.caller c.args.job.now w) c.in-Put.is c.in_ok-place.ensures.work in
    few-worked c.args.self.now.records c.args.now c.args.caller c.args.job.now c.in-Put.made _ _
    (subst (λ (l : List Record). IsWork l c.args.now c.args.caller c.args.job.now (work.Put c.in-Put.made)) view told)
    (subst (λ (l : List Record). c.put.new.steps ≤ c.args.steps.now + gradings_by l c.in-Put.made.event) view c.put.ensures.count)
